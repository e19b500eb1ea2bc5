use Rattle.std.proofs.Common.{arith, le_refl}
use Rattle.std.proofs.lemmas.List.{get_or_default}
use Rattle.std.specs.Prelude.{slice_index_or}
use Rattle.mt_track.proofs.Places.{blank}
use Rattle.mt_pair.proofs.Walks.{reads}
use Rattle.mt_pair.proofs.span.holding.Goals as goal

pub offset_bounds-segments-place : goal.offset_bounds-segments-place
offset_bounds-segments-place c = omega (arith, (reads c.args.strand.now c.segments-segments.result.now c.loop-place.place c.args.k blank c.segments-segments.ensures.kept c.segments-segments.ensures.are c.loop-place.invariant.begun c.requires.within).few)

pub bounds-segments-place : goal.bounds-segments-place
bounds-segments-place c = (reads c.args.strand.now c.segments-segments.result.now c.loop-place.place c.args.k blank c.segments-segments.ensures.kept c.segments-segments.ensures.are c.loop-place.invariant.begun c.requires.within).below

pub bounds-segments-place-in-loop-place : goal.bounds-segments-place-in-loop-place
bounds-segments-place-in-loop-place c = (reads c.args.strand.now c.segments-segments.result.now c.loop-place.place c.args.k blank c.segments-segments.ensures.kept c.segments-segments.ensures.are c.loop-place.invariant.begun c.requires.within).below

pub offset_bounds-segments-place-2 : goal.offset_bounds-segments-place-2
offset_bounds-segments-place-2 c = omega (arith, (reads c.args.strand.now c.segments-segments.result.now c.loop-place.place c.args.k blank c.segments-segments.ensures.kept c.segments-segments.ensures.are c.loop-place.invariant.begun c.requires.within).few)

pub bounds-segments-place-after-loop-place : goal.bounds-segments-place-after-loop-place
bounds-segments-place-after-loop-place c = (reads c.args.strand.now c.segments-segments.result.now c.loop-place.place c.args.k blank c.segments-segments.ensures.kept c.segments-segments.ensures.are c.loop-place.invariant.begun c.requires.within).below

pub bounds-segments-place-after-loop-place-2 : goal.bounds-segments-place-after-loop-place-2
bounds-segments-place-after-loop-place-2 c = (reads c.args.strand.now c.segments-segments.result.now c.loop-place.place c.args.k blank c.segments-segments.ensures.kept c.segments-segments.ensures.are c.loop-place.invariant.begun c.requires.within).below

pub overflow_add-place : goal.overflow_add-place
overflow_add-place c = omega (arith, (reads c.args.strand.now c.segments-segments.result.now c.loop-place.place c.args.k blank c.segments-segments.ensures.kept c.segments-segments.ensures.are c.loop-place.invariant.begun c.requires.within).few)

pub loop-place-smaller : goal.loop-place-smaller
loop-place-smaller c = omega (arith, (reads c.args.strand.now c.segments-segments.result.now c.loop-place.place c.args.k blank c.segments-segments.ensures.kept c.segments-segments.ensures.are c.loop-place.invariant.begun c.requires.within).below)

pub loop-place-preserved : goal.loop-place-preserved
loop-place-preserved c = record { begun = (reads c.args.strand.now c.segments-segments.result.now c.loop-place.place c.args.k c.index-segments-place.result c.segments-segments.ensures.kept c.segments-segments.ensures.are c.loop-place.invariant.begun c.requires.within).next c.loop-place-test.true }

pub returns-clause-ahead : goal.returns-clause-ahead
returns-clause-ahead c =
    let at = reads c.args.strand.now c.segments-segments.result.now c.loop-place.place c.args.k blank c.segments-segments.ensures.kept c.segments-segments.ensures.are c.loop-place.invariant.begun c.requires.within in
    rw (get_or_default c.segments-segments.result.now c.loop-place.place c.index-segments-place-2.result c.index-segments-place.result at.below) c.loop-place-test.false

pub returns-clause-covers : goal.returns-clause-covers
returns-clause-covers c =
    let at = reads c.args.strand.now c.segments-segments.result.now c.loop-place.place c.args.k c.index-segments-place-2.result c.segments-segments.ensures.kept c.segments-segments.ensures.are c.loop-place.invariant.begun c.requires.within in
    record {
      segments = c.segments-segments.result.now;
      segment = slice_index_or c.segments-segments.result.now c.loop-place.place c.index-segments-place-2.result;
      are = c.segments-segments.ensures.are;
      place = at.below;
      is = at.is;
      begun = at.begun;
      ahead = le_refl _;
    }
