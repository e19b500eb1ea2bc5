use Rattle.std.proofs.Common.{pos, get_or, arith}
use Rattle.std.proofs.lemmas.Result.{IfOk-from_err}
use Rattle.mt_base.specs.declared.place.Point.{Point}
use Rattle.mt_predict.specs.Manners.{manner}
use Rattle.mt_predict.proofs.Aboard.{leg_bounded, leg_rows_kept}
use Rattle.mt_predict.proofs.Routes.{IsLegFlown, full, next_leg, over_last}
use Rattle.mt_predict.proofs.fly.fly_route.Goals as goal

origin : Point
origin = record { x = pos 0; y = pos 0 }

pub fly_leg-requires-clause-leg_kept : goal.fly_leg-requires-clause-leg_kept
unfolding origin
fly_leg-requires-clause-leg_kept c =
    rw (c.leg_to-leg.ensures) (leg_bounded (manner c.args.rules.now c.args.bands.now c.args.level) c.loop-number.number (get_or c.args.fixes.now c.loop-number.number origin) c.loop-number.place
    (c.requires.fixes_kept c.loop-number.number origin c.loop-number-test.true) c.loop-number.invariant.held.plane)

pub fly_leg-requires-clause-bounded : goal.fly_leg-requires-clause-bounded
unfolding origin
fly_leg-requires-clause-bounded c =
    leg_rows_kept (manner c.args.rules.now c.args.bands.now c.args.level) c.loop-number.number (get_or c.args.fixes.now c.loop-number.number origin)
    c.loop-number.place c.leg_to-leg.result c.leg_to-leg.ensures c.requires.manner_kept
    (c.requires.fixes_kept c.loop-number.number origin c.loop-number-test.true) c.loop-number.invariant.held

pub loop-number-preserved : goal.loop-number-preserved
unfolding origin
loop-number-preserved c =
    let flown : IsLegFlown (manner c.args.rules.now c.args.bands.now c.args.level) c.leg_to-leg.result c.loop-number.strand c.fly_leg.new.strand c.loop-number.place c.in_ok-place.place =
    record {
      start = c.in_ok-place.ensures.start;
      rvsm = c.in_ok-place.ensures.rvsm;
      rows = c.in_ok-place.ensures.rows;
      at = c.in_ok-place.ensures.at;
      place = c.in_ok-place.ensures.place;
    } in
    next_leg origin c.leg_to-leg.result c.loop-number.invariant c.loop-number-test.true c.leg_to-leg.ensures c.requires.manner_kept
    (c.requires.fixes_kept c.loop-number.number origin c.loop-number-test.true) flown
    (omega (arith, c.end.ensures.end, c.end.ensures.kept.short, c.if-end-base-eq-MOST.false, flown.start, c.loop-number.invariant.start))

pub returns-then-end-base-eq-MOST-clause-rows : goal.returns-then-end-base-eq-MOST-clause-rows
unfolding origin
returns-then-end-base-eq-MOST-clause-rows c =
    let flown : IsLegFlown (manner c.args.rules.now c.args.bands.now c.args.level) c.leg_to-leg.result c.loop-number.strand c.fly_leg.new.strand c.loop-number.place c.in_ok-place.place =
    record {
      start = c.in_ok-place.ensures.start;
      rvsm = c.in_ok-place.ensures.rvsm;
      rows = c.in_ok-place.ensures.rows;
      at = c.in_ok-place.ensures.at;
      place = c.in_ok-place.ensures.place;
    } in
    full origin c.leg_to-leg.result c.loop-number.invariant c.loop-number-test.true c.leg_to-leg.ensures flown
    (omega (arith, c.end.ensures.end, c.if-end-base-eq-MOST.true, flown.start, c.loop-number.invariant.start))

pub returns-clause-rows : goal.returns-clause-rows
returns-clause-rows c = over_last c.loop-number.invariant c.loop-number-test.false

pub returns-in_err-place-clause-start : goal.returns-in_err-place-clause-start
returns-in_err-place-clause-start c = IfOk-from_err _ _ c.from_residual.ensures.0

pub returns-in_err-place-clause-rvsm : goal.returns-in_err-place-clause-rvsm
returns-in_err-place-clause-rvsm c = IfOk-from_err _ _ c.from_residual.ensures.0

pub returns-in_err-place-clause-rows : goal.returns-in_err-place-clause-rows
returns-in_err-place-clause-rows c = IfOk-from_err _ _ c.from_residual.ensures.0

pub fly_leg-requires-clause-manner_kept : goal.fly_leg-requires-clause-manner_kept
fly_leg-requires-clause-manner_kept c = c.requires.manner_kept
