use Rattle.std.proofs.Common.{◌<◌, arith}
use Rattle.mt_cover.proofs.Stand.{IsBoundedOver-front, IsBoundedOver-part, goes, here, part_box, stands_past, stands_still, stands_within}
use Rattle.mt_cover.proofs.walk.gather_part.Goals as goal

pub bounds-segments-index : goal.bounds-segments-index
bounds-segments-index c = stands_within _ _ _ _ _ c.requires.laid c.requires.stands (omega (arith, c.requires.some, c.requires.within))

pub overflow_sub-from : goal.overflow_sub-from
overflow_sub-from c = (here _ _ _ _ _ _ c.requires.laid c.requires.stands (omega (arith, c.requires.some, c.requires.within)) c.index-segments-index.is).begun

pub later-first-requires : goal.later-first-requires
later-first-requires c =
    let h = here _ _ _ _ _ _ c.requires.laid c.requires.stands (omega (arith, c.requires.some, c.requires.within)) c.index-segments-index.is in
    IsBoundedOver-front _ _ _ (omega (arith, h.begun, h.ahead)) h.bounded

pub overflow_sub-until : goal.overflow_sub-until
overflow_sub-until c =
    let h = goes _ _ _ _ _ _ _ _ c.requires.laid c.requires.stands (omega (arith, c.requires.some, c.requires.within)) c.index-segments-index.is c.requires.some c.min-until.ensures in
    omega (arith, h.on)

pub straight_box-requires-clause-some : goal.straight_box-requires-clause-some
straight_box-requires-clause-some c =
    let h = goes _ _ _ _ _ _ _ _ c.requires.laid c.requires.stands (omega (arith, c.requires.some, c.requires.within)) c.index-segments-index.is c.requires.some c.min-until.ensures in
    omega (arith, h.on)

pub straight_box-requires-clause-bounded : goal.straight_box-requires-clause-bounded
straight_box-requires-clause-bounded c =
    let h = here _ _ _ _ _ _ c.requires.laid c.requires.stands (omega (arith, c.requires.some, c.requires.within)) c.index-segments-index.is in
    rw c.later-first.ensures (IsBoundedOver-part _ _ _ _ (omega (arith, h.ahead, c.requires.some, c.min-until.ensures)) (omega (arith, h.begun, h.ahead, c.min-until.ensures)) h.bounded)

pub returns-then-segment-to-clause-on : goal.returns-then-segment-to-clause-on
returns-then-segment-to-clause-on c =
    let h = goes _ _ _ _ _ _ _ _ c.requires.laid c.requires.stands (omega (arith, c.requires.some, c.requires.within)) c.index-segments-index.is c.requires.some c.min-until.ensures in
    omega (arith, h.on)

pub returns-then-segment-to-clause-is : goal.returns-then-segment-to-clause-is
returns-then-segment-to-clause-is c =
    let early : c.args.from < c.args.end = omega (arith, c.requires.some, c.requires.within) in
    let h = goes _ _ _ _ _ _ _ _ c.requires.laid c.requires.stands early c.index-segments-index.is c.requires.some c.min-until.ensures in
    part_box _ _ _ _ _ _ _ _ c.requires.laid c.requires.stands early c.index-segments-index.is c.requires.begun
    (omega (arith, h.on)) (omega (arith, c.min-until.ensures)) (rw c.later-first.ensures at c.straight_box.ensures.is)

pub returns-else-segment-to-clause-is : goal.returns-else-segment-to-clause-is
returns-else-segment-to-clause-is c =
    let early : c.args.from < c.args.end = omega (arith, c.requires.some, c.requires.within) in
    let h = goes _ _ _ _ _ _ _ _ c.requires.laid c.requires.stands early c.index-segments-index.is c.requires.some c.min-until.ensures in
    part_box _ _ _ _ _ _ _ _ c.requires.laid c.requires.stands early c.index-segments-index.is c.requires.begun
    (omega (arith, h.on)) (omega (arith, c.min-until.ensures)) (rw c.later-first.ensures at c.straight_box.ensures.is)

pub returns-then-segment-to-clause-stands : goal.returns-then-segment-to-clause-stands
returns-then-segment-to-clause-stands c =
    let early : c.args.from < c.args.end = omega (arith, c.requires.some, c.requires.within) in
    stands_past _ _ _ _ _ _ _ _ c.requires.laid c.requires.stands early c.index-segments-index.is c.min-until.ensures c.if-segment-to.true

pub returns-else-segment-to-clause-stands : goal.returns-else-segment-to-clause-stands
returns-else-segment-to-clause-stands c =
    let early : c.args.from < c.args.end = omega (arith, c.requires.some, c.requires.within) in
    stands_still _ _ _ _ _ _ _ _ c.requires.laid c.requires.stands early c.index-segments-index.is c.requires.some c.min-until.ensures c.if-segment-to.false
