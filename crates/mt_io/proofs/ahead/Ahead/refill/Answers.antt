use Rattle.std.proofs.Common.{◌≡◌, ◌≤◌, ◌∙◌, drop, length, refl, ap, arith}
use Rattle.mt_io.specs.Reading.{Store}
use Rattle.mt_io.proofs.Gathering.{ends_front, ends_none, fills_read}
use Rattle.mt_io.proofs.ahead.Ahead.refill.Goals as goal

pub returns-then-self-eq-LIMIT-clause-read : goal.returns-then-self-eq-LIMIT-clause-read
returns-then-self-eq-LIMIT-clause-read g c = record {
  unread = refl;
  place = c.if-self-eq-LIMIT.true;
  empty = refl;
  same = ap (λ (s : Store). s.taken) c.self.view_is;
  going = ap (λ (s : Store). s.ended) c.self.view_is ∙ c.requires.going;
}

pub returns-in-Ok-eq0-clause-read : goal.returns-in-Ok-eq0-clause-read
returns-in-Ok-eq0-clause-read g c =
    let same : c.self.inside.taken ≡ c.args.self.now.taken = ap (λ (s : Store). s.taken) c.self.view_is in
    let read = rw c.in-Ok-eq0.field-0-test at c.in-Ok-eq0.ensures.bytes in
    record {
      from = read.0;
      count = omega (arith, same);
      limit = omega (arith, same, c.requires.limit);
      some = λ more. cc;
      none = λ over. (
        refl,
        refl,
        read.1 refl (omega (arith, c.read_front.auto.buf, ap length c.deref_mut.ensures.value, c.self.inside.chunk.ok.0, c.self.invariant.2)),
        omega (arith, same, c.requires.limit, c.if-self-eq-LIMIT.false),
      );
    }

pub returns-in-Err-clause-read : goal.returns-in-Err-clause-read
returns-in-Err-clause-read g c =
    let same : c.self.inside.taken ≡ c.args.self.now.taken = ap (λ (s : Store). s.taken) c.self.view_is in
    record {
      unread = c.in-Err.ensures.bytes;
      place = omega (arith, same, c.requires.limit, c.if-self-eq-LIMIT.false);
      empty = refl;
      same = same;
      going = ap (λ (s : Store). s.ended) c.self.view_is ∙ c.requires.going;
    }

pub returns-in-Err-clause-cause : goal.returns-in-Err-clause-cause
returns-in-Err-clause-cause g c = λ is. c.in-Err.ensures.cause.failed

pub invariant_of-self : goal.invariant_of-self
invariant_of-self g c = (omega arith, omega arith, c.self.invariant.2, ends_none _)

pub invariant_of-self-in-Ok-eq0 : goal.invariant_of-self-in-Ok-eq0
invariant_of-self-in-Ok-eq0 g c = (omega arith, omega arith, c.self.invariant.2, ends_none _)

pub invariant_of-self-in-Err : goal.invariant_of-self-in-Err
invariant_of-self-in-Err g c = (omega arith, omega arith, c.self.invariant.2, ends_none _)

pub returns-in-Ok-clause-read : goal.returns-in-Ok-clause-read
returns-in-Ok-clause-read g c =
    let same : c.self.inside.taken ≡ c.args.self.now.taken = ap (λ (s : Store). s.taken) c.self.view_is in
    let room : length c.read_front.new.buf ≡ c.self.inside.chunk.len =
    omega (arith, c.read_front.auto.buf, ap length c.deref_mut.ensures.value, c.self.inside.chunk.ok.0) in
    let few : c.in-Ok.count ≤ c.self.inside.chunk.len = omega (arith, c.in-Ok.ensures.bound, c.min-room.ensures, c.len.ensures) in
    fills_read c.args.self.now _ _ _ c.read_front.new.buf (drop (length c.read_front.new.buf) c.self.inside.chunk.items) c.self.inside.chunk.len c.in-Ok.count c.self.inside.taken
    c.self.inside.ended refl few (omega (arith, room, few)) same (ap (λ (s : Store). s.ended) c.self.view_is ∙ c.requires.going)
    (omega (arith, same, c.requires.limit, c.in-Ok.ensures.bound, c.min-room.ensures)) (omega (arith, c.in-Ok.count-test.1)) c.in-Ok.ensures.bytes.0

pub invariant_of-self-in-Ok : goal.invariant_of-self-in-Ok
invariant_of-self-in-Ok g c =
    let few : c.in-Ok.count ≤ c.self.inside.chunk.len = omega (arith, c.in-Ok.ensures.bound, c.min-room.ensures, c.len.ensures) in
    let size : length c.deref.result.now ≡ c.self.inside.chunk.len = c.deref.ensures.len in (
      omega arith,
      few,
      c.self.invariant.2,
      rw c.deref.ensures.value at (ends_front c.deref.result.now c.in-Ok.count c.whole_end-self-inside.result (omega (arith, few, size)) c.whole_end-self-inside.ensures),
    )
