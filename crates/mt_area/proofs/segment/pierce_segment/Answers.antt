use Rattle.std.proofs.Common.{◌-◌, arith}
use Rattle.mt_ring.proofs.Ring.{lin}
use Rattle.mt_base.specs.Area.{IsInside}
use Rattle.mt_track.specs.Rows.{row_after}
use Rattle.mt_area.proofs.Instants.{inside_after}
use Rattle.mt_area.proofs.Volumes.{none_inside}
use Rattle.mt_area.proofs.Passing.{HoldsRowAt-segment}
use Rattle.mt_base.proofs.Spans.{IsSpan-same}
use Rattle.mt_area.proofs.segment.pierce_segment.Goals as goal

pub returns : goal.returns
returns c =
    let s = c.args.segment.now in
    let span = rw c.later-row.ensures at c.pierce_from.ensures in
    IsSpan-same (λ k. IsInside c.args.area.now (row_after (row_after s.first (c.args.from - s.from)) (k - c.args.from)))
    (λ k. IsInside c.args.area.now (row_after s.first (k - s.from)))
    c.args.from c.args.to c.pierce_from.result
    (λ k begun ahead. inside_after c.args.area.now s.first s.from c.args.from k c.requires.begun begun) span

pub returns-then-lie_apart : goal.returns-then-lie_apart
returns-then-lie_apart c = λ k begun ahead inside.
    let s = c.args.segment.now in
    let volume = c.volume_between.result in
    let row = rw c.later-row.ensures at c.volume_between.ensures.row in
    let end = rw c.later-end.ensures at c.volume_between.ensures.end in
    none_inside c.args.area.now volume (row_after s.first (k - s.from)) inside.n inside.d c.requires.area_kept (omega (arith, lin, inside.begun, inside.within))
    (HoldsRowAt-segment volume s.first s.from c.args.from c.args.to k c.requires.begun begun ahead row end inside.n inside.d inside.begun inside.within)
    (c.lie_apart.ensures.0 c.if-lie_apart.true) inside.at
