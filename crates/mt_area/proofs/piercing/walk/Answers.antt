use Rattle.std.proofs.Common.{◌≡◌, ◌+◌, ℕ, length, arith, subst, ⊎_elim}
use Rattle.std.proofs.lemmas.Bool.{cases_lt}
use Rattle.mt_base.specs.Area.{IsPierce}
use Rattle.mt_track.specs.Laid.{edge}
use Rattle.mt_area.proofs.Walks.{edge_end, pierce_joined, reads}
use Rattle.mt_area.proofs.piercing.walk.Goals as goal

pub loop-segment-preserved-then-until-reached : goal.loop-segment-preserved-then-until-reached
loop-segment-preserved-then-until-reached c =
    let at = reads c.args.strand.now c.segments-segments.result.now c.loop-segment.segment-index c.segment-item.result c.segments-segments.ensures.kept c.segments-segments.ensures.are c.loop-segment-test.true c.segment-item.is in
    record {
      ordered = c.loop-segment.invariant.ordered;
      within = c.loop-segment.invariant.within;
      ahead = λ before. omega (arith, at.to, before, c.if-until-reached.true, c.min-until.ensures);
      pierce = c.loop-segment.invariant.pierce;
    }

pub pierce_segment-requires-clause-begun : goal.pierce_segment-requires-clause-begun
pierce_segment-requires-clause-begun c =
    let at = reads c.args.strand.now c.segments-segments.result.now c.loop-segment.segment-index c.segment-item.result c.segments-segments.ensures.kept c.segments-segments.ensures.are c.loop-segment-test.true c.segment-item.is in
    let ahead = c.loop-segment.invariant.ahead (omega (arith, c.if-until-reached.false, c.min-until.ensures)) in
    omega (arith, at.from, ahead)

pub pierce_segment-requires-clause-kept : goal.pierce_segment-requires-clause-kept
pierce_segment-requires-clause-kept c =
    let at = reads c.args.strand.now c.segments-segments.result.now c.loop-segment.segment-index c.segment-item.result c.segments-segments.ensures.kept c.segments-segments.ensures.are c.loop-segment-test.true c.segment-item.is in
    let ahead = c.loop-segment.invariant.ahead (omega (arith, c.if-until-reached.false, c.min-until.ensures)) in
    (at.holds c.loop-segment.reached (omega (arith, at.from, ahead)) (omega (arith, c.if-until-reached.false, c.min-until.ensures))).kept

pub pierce_segment-requires-clause-bounded : goal.pierce_segment-requires-clause-bounded
pierce_segment-requires-clause-bounded c =
    let at = reads c.args.strand.now c.segments-segments.result.now c.loop-segment.segment-index c.segment-item.result c.segments-segments.ensures.kept c.segments-segments.ensures.are c.loop-segment-test.true c.segment-item.is in
    let ahead = c.loop-segment.invariant.ahead (omega (arith, c.if-until-reached.false, c.min-until.ensures)) in
    (at.holds c.loop-segment.reached (omega (arith, at.from, ahead)) (omega (arith, c.if-until-reached.false, c.min-until.ensures))).bounded

pub pierce_segment-requires-clause-end_kept : goal.pierce_segment-requires-clause-end_kept
pierce_segment-requires-clause-end_kept c =
    let at = reads c.args.strand.now c.segments-segments.result.now c.loop-segment.segment-index c.segment-item.result c.segments-segments.ensures.kept c.segments-segments.ensures.are c.loop-segment-test.true c.segment-item.is in
    let ahead = c.loop-segment.invariant.ahead (omega (arith, c.if-until-reached.false, c.min-until.ensures)) in
    at.kept c.min-until.result (omega (arith, at.from, ahead, c.if-until-reached.false)) (omega (arith, c.min-until.ensures))

pub loop-segment-preserved : goal.loop-segment-preserved
loop-segment-preserved c =
    let at = reads c.args.strand.now c.segments-segments.result.now c.loop-segment.segment-index c.segment-item.result c.segments-segments.ensures.kept c.segments-segments.ensures.are c.loop-segment-test.true c.segment-item.is in
    let ahead = c.loop-segment.invariant.ahead (omega (arith, c.if-until-reached.false, c.min-until.ensures)) in
    record {
      ordered = omega (arith, c.loop-segment.invariant.ordered, c.if-until-reached.false);
      within = omega (arith, c.min-until.ensures);
      ahead = λ before. omega (arith, at.to, before, c.min-until.ensures);
      pierce = rw c.join-span.ensures
          (pierce_joined c.args.strand.now c.args.area.now c.segment-item.result
          c.args.from c.loop-segment.reached c.min-until.result c.loop-segment.span c.pierce_segment.result
          c.loop-segment.invariant.ordered (omega (arith, c.if-until-reached.false)) c.requires.opened (omega (arith, c.min-until.ensures, c.requires.closed))
          (omega (arith, at.from, ahead)) (omega (arith, c.min-until.ensures)) at.holds c.loop-segment.invariant.pierce c.pierce_segment.ensures);
    }

pub returns : goal.returns
returns c =
    let ended : edge c.args.strand.now.start c.segments-segments.result.now c.loop-segment.segment-index ≡ c.args.strand.now.start + length c.args.strand.now.rows =
    edge_end _ _ _ _ c.segments-segments.ensures.are.adjoin c.loop-segment-test.false c.loop-segment.auto.segment-index-end in
    let done : c.loop-segment.reached ≡ c.args.to = ⊎_elim
    (λ less. let ahead = c.loop-segment.invariant.ahead less in absurd (omega (arith, ended, ahead, less, c.requires.within)))
    (λ past. omega (arith, past, c.loop-segment.invariant.within))
    (cases_lt c.loop-segment.reached c.args.to) in
    subst (λ (k : ℕ). IsPierce c.args.strand.now c.args.area.now c.args.from k c.loop-segment.span) done c.loop-segment.invariant.pierce
