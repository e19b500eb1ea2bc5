use Rattle.std.proofs.Common.{◌≡◌, ◌∙◌, inl, inr, ⊎_elim, refl, ap, arith, vec_len}
use Rattle.std.proofs.Math.Nat.{le_trans}
use Rattle.mt_io.specs.Calls.{with_failure}
use Rattle.mt_io.specs.Private.Calls.{went_on}
use Rattle.mt_io.proofs.Planned.{failed_cause, passed_cause}
use Rattle.mt_io.proofs.mem_sink.MemSinkSink.write_some.Goals as goal

pub returns-then-next_fails-clause-fails : goal.returns-then-next_fails-clause-fails
returns-then-next_fails-clause-fails c = (λ is. inl (c.next_fails.ensures.listed.0 c.if-next_fails.true), λ refused. refl)

pub returns-then-next_fails-clause-counts : goal.returns-then-next_fails-clause-counts
returns-then-next_fails-clause-counts c = rw c.if-next_fails.true at c.next_fails.ensures.counts

pub returns-then-next_fails-clause-cause : goal.returns-then-next_fails-clause-cause
returns-then-next_fails-clause-cause c =
    failed_cause c.args.self.now.calls c.next_fails.new.self _ c.next_fails.ensures.on.later (rw c.if-next_fails.true at c.next_fails.ensures.counts)

pub returns-then-next_fails-clause-kept : goal.returns-then-next_fails-clause-kept
returns-then-next_fails-clause-kept c = record {
  same_room = refl;
  same_most = refl;
  grows = omega arith;
  calls = c.next_fails.ensures.on;
  quiet = λ room. c.next_fails.ensures.quiet;
}

pub returns-then-count-eq0-clause-counts : goal.returns-then-count-eq0-clause-counts
returns-then-count-eq0-clause-counts c = c.fail.ensures.counts ∙ ap with_failure (rw c.if-next_fails.false at c.next_fails.ensures.counts)

pub returns-then-count-eq0-clause-cause : goal.returns-then-count-eq0-clause-cause
returns-then-count-eq0-clause-cause c =
    failed_cause c.args.self.now.calls c.fail.new.self _ (le_trans c.next_fails.ensures.on.later c.fail.ensures.on.later)
    (c.fail.ensures.counts ∙ ap with_failure (rw c.if-next_fails.false at c.next_fails.ensures.counts))

pub returns-clause-counts : goal.returns-clause-counts
returns-clause-counts c = rw c.if-next_fails.false at c.next_fails.ensures.counts

pub returns-clause-cause : goal.returns-clause-cause
returns-clause-cause c = passed_cause c.args.self.now.calls c.next_fails.new.self c.min-count.result c.next_fails.ensures.on

pub returns-then-count-eq0-clause-fails : goal.returns-then-count-eq0-clause-fails
returns-then-count-eq0-clause-fails c =
    let s = c.args.self.now in
    let full : vec_len s.bytes ≡ s.room =
    omega (arith, c.if-count-eq0.true, c.min-count.ensures, c.min.ensures, c.len.ensures, c.requires, s.within, s.some) in
    (λ is. inr full, λ refused. refl)

pub returns-then-count-eq0-clause-kept : goal.returns-then-count-eq0-clause-kept
returns-then-count-eq0-clause-kept c =
    let s = c.args.self.now in
    let full : vec_len s.bytes ≡ s.room =
    omega (arith, c.if-count-eq0.true, c.min-count.ensures, c.min.ensures, c.len.ensures, c.requires, s.within, s.some) in
    record {
      same_room = refl;
      same_most = refl;
      grows = omega arith;
      calls = went_on s.calls c.next_fails.new.self c.fail.new.self c.next_fails.ensures.on c.fail.ensures.on;
      quiet = λ room. absurd (omega (arith, room, full));
    }

pub returns-clause-fails : goal.returns-clause-fails
returns-clause-fails c = (
  λ is. cc,
  λ refused. ⊎_elim
      (λ listed. cc (c.next_fails.ensures.listed.1 listed))
      (λ full. absurd (omega (arith, full, c.if-count-eq0.false, c.min-count.ensures, c.min.ensures, c.len.ensures)))
      refused,
)

pub returns-clause-kept : goal.returns-clause-kept
returns-clause-kept c = record {
  same_room = refl;
  same_most = refl;
  grows = omega (arith, c.in-Ok.ensures.len);
  calls = c.next_fails.ensures.on;
  quiet = λ room. c.next_fails.ensures.quiet;
}

pub returns-clause-takes : goal.returns-clause-takes
returns-clause-takes c = omega (arith, c.min-count.ensures, c.min.ensures, c.len.ensures, c.args.self.now.bytes.ok.0)

pub returns-clause-bound : goal.returns-clause-bound
returns-clause-bound c = (omega (arith, c.if-count-eq0.false), omega (arith, c.min-count.ensures, c.min.ensures))

pub returns-clause-bytes : goal.returns-clause-bytes
returns-clause-bytes c = c.in-Ok.ensures.items
