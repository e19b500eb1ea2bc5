use Rattle.std.proofs.Common.{◌≡◌, ◌+◌, length, ⊎_elim, arith}
use Rattle.std.proofs.lemmas.Bool.{cases_lt}
use Rattle.mt_track.specs.Laid.{edge}
use Rattle.mt_area.proofs.Volumes.{HoldsRow-wider, IsWiderVolume-twice, placed_after}
use Rattle.mt_area.proofs.Passing.{HoldsBefore-more, HoldsBefore-skip, HoldsSecond-behind}
use Rattle.mt_area.proofs.Walks.{edge_end, reads}
use Rattle.mt_area.proofs.volume.volume_over.Goals as goal

pub loop-segment-preserved-then-end-begin : goal.loop-segment-preserved-then-end-begin
loop-segment-preserved-then-end-begin c =
    let at = reads c.args.strand.now c.segments-segments.result.now c.loop-segment.segment-index c.segment-item.result c.segments-segments.ensures.kept c.segments-segments.ensures.are c.loop-segment-test.true c.segment-item.is in
    HoldsBefore-skip c.loop-segment.volume c.args.strand.now c.segments-segments.result.now c.loop-segment.segment-index _ c.args.from c.args.to at
    (λ k begun within low high. absurd (omega (arith, c.max-begin.ensures, c.min-end.ensures, c.if-end-begin.true))) c.loop-segment.invariant

pub later-requires : goal.later-requires
later-requires c =
    let at = reads c.args.strand.now c.segments-segments.result.now c.loop-segment.segment-index c.segment-item.result c.segments-segments.ensures.kept c.segments-segments.ensures.are c.loop-segment-test.true c.segment-item.is in
    at.kept c.max-begin.result (omega (arith, c.max-begin.ensures)) (omega (arith, c.min-end.ensures, c.if-end-begin.false))

pub grown-volume-requires : goal.grown-volume-requires
grown-volume-requires c =
    let at = reads c.args.strand.now c.segments-segments.result.now c.loop-segment.segment-index c.segment-item.result c.segments-segments.ensures.kept c.segments-segments.ensures.are c.loop-segment-test.true c.segment-item.is in
    rw c.later.ensures (placed_after _ _ (at.kept c.max-begin.result (omega (arith, c.max-begin.ensures)) (omega (arith, c.min-end.ensures, c.if-end-begin.false))))

pub later-requires-in-loop-segment : goal.later-requires-in-loop-segment
later-requires-in-loop-segment c =
    let at = reads c.args.strand.now c.segments-segments.result.now c.loop-segment.segment-index c.segment-item.result c.segments-segments.ensures.kept c.segments-segments.ensures.are c.loop-segment-test.true c.segment-item.is in
    at.kept c.min-end.result (omega (arith, c.max-begin.ensures, c.if-end-begin.false)) (omega (arith, c.min-end.ensures))

pub grown-volume-requires-in-loop-segment : goal.grown-volume-requires-in-loop-segment
grown-volume-requires-in-loop-segment c =
    let at = reads c.args.strand.now c.segments-segments.result.now c.loop-segment.segment-index c.segment-item.result c.segments-segments.ensures.kept c.segments-segments.ensures.are c.loop-segment-test.true c.segment-item.is in
    rw c.later-in-loop-segment.ensures (placed_after _ _ (at.kept c.min-end.result (omega (arith, c.max-begin.ensures, c.if-end-begin.false)) (omega (arith, c.min-end.ensures))))

pub loop-segment-preserved : goal.loop-segment-preserved
loop-segment-preserved c =
    let at = reads c.args.strand.now c.segments-segments.result.now c.loop-segment.segment-index c.segment-item.result c.segments-segments.ensures.kept c.segments-segments.ensures.are c.loop-segment-test.true c.segment-item.is in
    let wider = c.grown-volume-in-loop-segment.ensures.wider in
    HoldsBefore-more c.loop-segment.volume c.grown-volume-in-loop-segment.result c.args.strand.now c.segments-segments.result.now c.loop-segment.segment-index
    c.segment-item.result c.args.from c.args.to c.max-begin.result c.min-end.result at
    (IsWiderVolume-twice c.loop-segment.volume c.grown-volume.result c.grown-volume-in-loop-segment.result c.grown-volume.ensures.wider wider)
    (omega (arith, c.max-begin.ensures)) (omega (arith, c.min-end.ensures))
    (λ k begun within low high. (omega (arith, c.max-begin.ensures), omega (arith, c.min-end.ensures)))
    (HoldsRow-wider c.grown-volume.result c.grown-volume-in-loop-segment.result _ wider (rw c.later.ensures at c.grown-volume.ensures.holds))
    (rw c.later-in-loop-segment.ensures at c.grown-volume-in-loop-segment.ensures.holds) c.loop-segment.invariant

pub returns : goal.returns
returns c =
    let t = c.args.strand.now in
    let ended : edge t.start c.segments-segments.result.now c.loop-segment.segment-index ≡ t.start + length t.rows =
    edge_end _ _ _ _ c.segments-segments.ensures.are.adjoin c.loop-segment-test.false c.loop-segment.auto.segment-index-end in
    λ k low high. ⊎_elim
    (λ less. c.loop-segment.invariant k (omega (arith, less, ended)) low high)
    (λ late. HoldsSecond-behind c.loop-segment.volume t k late)
    (cases_lt k (t.start + length t.rows))
