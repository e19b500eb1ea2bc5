use Rattle.std.proofs.Common.{ℕ, ◌≡◌, ◌≤◌, arith, subst}
use Rattle.mt_base.specs.Conflict.{IsConflict, IsLossSecond}
use Rattle.mt_pair.proofs.Solids.{IsSolid-joined}
use Rattle.mt_pair.proofs.Walks.{HasBegun-covers, IsConflict-joined}
use Rattle.mt_pair.proofs.span.walk.Goals as goal

pub holding-s-requires-clause-begun : goal.holding-s-requires-clause-begun
holding-s-requires-clause-begun c = c.loop-k.invariant.a_begun

pub holding-t-requires-clause-begun : goal.holding-t-requires-clause-begun
holding-t-requires-clause-begun c = c.loop-k.invariant.b_begun

pub part-more-requires-clause-rules_kept : goal.part-more-requires-clause-rules_kept
part-more-requires-clause-rules_kept c = c.requires.rules_kept

pub loop-k-preserved : goal.loop-k-preserved
loop-k-preserved c =
    let inv = c.loop-k.invariant in
    let ahead : c.loop-k.k ≤ c.min-until.result = omega (arith, c.min.ensures, c.min-until.ensures, c.holding-s.ensures.ahead, c.holding-t.ensures.ahead, c.loop-k-test.true) in
    record {
      ordered = omega (arith, ahead, inv.ordered);
      within = omega (arith, c.min.ensures, c.min-until.ensures);
      a_begun = HasBegun-covers _ _ _ _ _ c.holding-s.ensures.covers ahead;
      b_begun = HasBegun-covers _ _ _ _ _ c.holding-t.ensures.covers ahead;
      conflict = rw c.join-loss.ensures.span
          (IsConflict-joined c.args.rules.now c.args.a.now c.args.b.now c.args.from c.loop-k.k c.min-until.result c.loop-k.loss.span c.part-more.result.span
          inv.ordered ahead inv.conflict c.part-more.ensures.conflict);
      solid = λ yes.
          let both = c.join-loss.ensures.solid yes in
          rw c.join-loss.ensures.span
          (IsSolid-joined (IsLossSecond c.args.rules.now c.args.a.now c.args.b.now) c.loop-k.loss.span c.part-more.result.span
          both.2 (inv.solid both.0) (c.part-more.ensures.solid both.1));
    }

pub returns-clause-conflict : goal.returns-clause-conflict
returns-clause-conflict c =
    let at_end : c.loop-k.k ≡ c.args.to = omega (arith, c.loop-k-test.false, c.loop-k.invariant.within) in
    subst (λ (k : ℕ). IsConflict c.args.rules.now c.args.a.now c.args.b.now c.args.from k c.loop-k.loss.span) at_end c.loop-k.invariant.conflict
