use Rattle.std.proofs.Common.{◌+◌, ◌*◌, min, arith}
use Rattle.mt_meet.proofs.Listing.{first_at, none_at, none_until}
use Rattle.mt_meet.proofs.Searching.{at_place, none_to_mark}
use Rattle.mt_meet.proofs.table.SliceTable.next_in.Goals as goal

pub loop-place-init : goal.loop-place-init
loop-place-init c = record {
  on = c.next_marked-place.ensures.on;
  none = none_to_mark c.args.subject.now c.args.self.now c.args.block c.args.search.now.even c.args.search.now.odd c.requires.even c.requires.odd c.args.from
      c.next_marked-place.result c.next_marked-place.ensures.even c.next_marked-place.ensures.odd;
}

pub met_at-requires : goal.met_at-requires
met_at-requires c = at_place c.args.subject.now c.args.self.now c.args.block c.args.search.now.even c.args.search.now.odd c.requires.even c.requires.odd c.loop-place.place
    c.parts-parts.result c.loop-place-test.true c.parts-parts.ensures.even c.parts-parts.ensures.odd

pub returns-in-Some : goal.returns-in-Some
returns-in-Some c = first_at c.args.subject.now.rules c.args.subject.now.sliced c.args.self.now (128 * c.args.block + c.args.from)
    (128 * c.args.block + c.loop-place.place) c.in-Some.met (omega (arith, c.loop-place.invariant.on))
    (λ item late below. c.loop-place.invariant.none item late (omega (arith, below, c.loop-place-test.true))) c.in-Some.ensures

pub loop-place-preserved : goal.loop-place-preserved
loop-place-preserved c =
    let asked = c.args.subject.now in
    let start = 128 * c.args.block + c.args.from in
    let here = 128 * c.args.block + c.loop-place.place in
    let next = c.next_marked-place-in-loop-place.result in
    let before = none_at asked.rules asked.sliced c.args.self.now start here
    (λ item late below. c.loop-place.invariant.none item late (omega (arith, below, c.loop-place-test.true))) c.in_default.ensures in
    record {
      on = omega (arith, c.loop-place.invariant.on, c.next_marked-place-in-loop-place.ensures.on);
      none = none_until asked.rules asked.sliced c.args.self.now start (here + 1) (128 * c.args.block + (c.loop-place.place + 1)) (128 * c.args.block + min next 128)
          (omega arith) before
          (none_to_mark asked c.args.self.now c.args.block c.args.search.now.even c.args.search.now.odd c.requires.even c.requires.odd (c.loop-place.place + 1) next
          c.next_marked-place-in-loop-place.ensures.even c.next_marked-place-in-loop-place.ensures.odd);
    }

pub returns : goal.returns
returns c = λ item late below. c.loop-place.invariant.none item late (omega (arith, below, c.loop-place-test.false))
