use Rattle.std.proofs.Common.{true≢false, ◌+◌, [], refl, sym, ◌∙◌, arith}
use Rattle.mt_probe.proofs.Ahead.{tried_all, tried_more}
use Rattle.mt_probe.proofs.Candidates.{met_inside}
use Rattle.mt_probe.proofs.Clearing.{own_place}
use Rattle.mt_probe.proofs.HitPlaces.{has_one, hit_no_more, no_hit, none_below, not_some}
use Rattle.mt_probe.proofs.hitting.has_hit_among.Goals as goal

pub hit_with-requires : goal.hit_with-requires
hit_with-requires c = record { mine = c.args.mine.now.sliced; ahead = c.requires.ahead.ahead; is = c.in-Some.ensures.next.is }

pub loop-met-smaller : goal.loop-met-smaller
loop-met-smaller c =
    let inside = met_inside c.args.snapshot.now c.args.mine.now.sliced c.in-Some.met c.in-Some.ensures.next.is in
    omega (arith, inside, c.in-Some.ensures.next.begun, c.in-Some.ensures.on)

pub loop-met-init : goal.loop-met-init
loop-met-init c = record {
  searched = rw c.begin-search.ensures.unmarked tt;
  clear = rw c.begin-search.ensures.from (none_below c.args.snapshot.now c.args.call c.args.strand.now);
  counted = λ items near. omega arith;
}

pub loop-met-preserved : goal.loop-met-preserved
loop-met-preserved c =
    let shot = c.args.snapshot.now in
    let t = c.args.strand.now in
    let sound = c.keeps.ensures.sound in
    let own = own_place c.args.snapshot.now c.args.call _ c.keeps.ensures.sound c.find-own.ensures.flight in
    record {
      searched = c.next_meeting.ensures.searched;
      clear = rw c.in-Some.ensures.on (hit_no_more shot c.args.call t c.args.mine.now.sliced c.requires.ahead.ahead sound c.keeps-2.ensures c.loop-met.search.from c.in-Some.met [] c.in-Some.ensures.next
          (c.hit_with.ensures.clear c.args.call own (not_some c.hit_with.result (sym c.is_some.ensures ∙ c.if-is_some.false))) c.loop-met.invariant.clear);
      counted = rw c.in-Some.ensures.on (tried_more shot c.args.call t sound c.keeps-2.ensures c.args.mine.now.sliced c.loop-met.search.from c.in-Some.met c.args.tests.now _ _ c.requires.ahead.ahead
          c.in-Some.ensures.next c.loop-met.invariant.counted (c.hit_with.ensures.counted c.args.call own));
    }

pub returns-then-is_some-clause-hit : goal.returns-then-is_some-clause-hit
returns-then-is_some-clause-hit c =
    let own = own_place c.args.snapshot.now c.args.call _ c.keeps.ensures.sound c.find-own.ensures.flight in (
      (λ _. has_one c.args.snapshot.now c.args.call c.args.strand.now _ c.hit_with.result c.keeps.ensures.sound (c.hit_with.ensures.hit c.args.call own)
          (sym c.is_some.ensures ∙ c.if-is_some.true)),
      (λ _. refl),
    )

pub returns-then-is_some-clause-counted : goal.returns-then-is_some-clause-counted
returns-then-is_some-clause-counted c =
    let shot = c.args.snapshot.now in
    let t = c.args.strand.now in
    let sound = c.keeps.ensures.sound in
    let own = own_place c.args.snapshot.now c.args.call _ c.keeps.ensures.sound c.find-own.ensures.flight in
    tried_all shot c.args.call t sound c.keeps-2.ensures (c.in-Some.met.item + 1) c.args.tests.now _
    (tried_more shot c.args.call t sound c.keeps-2.ensures c.args.mine.now.sliced c.loop-met.search.from c.in-Some.met c.args.tests.now _ _ c.requires.ahead.ahead c.in-Some.ensures.next
    c.loop-met.invariant.counted (c.hit_with.ensures.counted c.args.call own))

pub returns-clause-hit : goal.returns-clause-hit
returns-clause-hit c = (
  (λ yes. absurd (true≢false (sym yes))),
  (λ has. absurd (no_hit c.args.snapshot.now c.args.call c.args.strand.now c.args.mine.now.sliced c.requires.ahead.ahead c.keeps.ensures.sound c.keeps-2.ensures
      c.loop-met.search.from c.in_default.ensures.next c.loop-met.invariant.clear has)),
)

pub returns-clause-counted : goal.returns-clause-counted
returns-clause-counted c = tried_all c.args.snapshot.now c.args.call c.args.strand.now c.keeps.ensures.sound c.keeps-2.ensures c.loop-met.search.from c.args.tests.now _
    c.loop-met.invariant.counted
