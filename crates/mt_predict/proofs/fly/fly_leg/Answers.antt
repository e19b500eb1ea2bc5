use Rattle.std.proofs.Common.{◌-◌, length, arith, rules}
use Rattle.std.proofs.lemmas.Result.{IfOk-from_err}
use Rattle.mt_predict.specs.Manners.{manner}
use Rattle.mt_predict.proofs.Legs.{IsNext, first_bounded, place_flown, row_flown, rows_flown, stretch_bounded, stretch_flown, stretch_follows}
use Rattle.mt_predict.proofs.fly.fly_leg.Goals as goal

-- all seconds of the leg are left
pub loop-left-init : goal.loop-left-init
loop-left-init c = search rules

pub row_on-row-requires-clause-bounded : goal.row_on-row-requires-clause-bounded
row_on-row-requires-clause-bounded c = first_bounded _ _ _ _ (omega (arith, c.loop-left-test.true)) c.loop-left.invariant.bounded

pub steady-seconds-requires-clause-row_kept : goal.steady-seconds-requires-clause-row_kept
steady-seconds-requires-clause-row_kept c =
    row_flown _ _ _ _ _ c.requires.manner_kept.rules c.row_on-row.ensures
    (first_bounded _ _ _ _ (omega (arith, c.loop-left-test.true)) c.loop-left.invariant.bounded)

pub of-requires : goal.of-requires
of-requires c = (1, rw c.row_on-row.ensures (first_bounded _ _ _ _ (omega (arith, c.loop-left-test.true)) c.loop-left.invariant.bounded))

pub push-requires : goal.push-requires
push-requires c =
    let m = manner c.args.rules.now c.args.bands.now c.args.level in
    let next : IsNext m c.args.leg.now (c.args.leg.now.seconds - c.min.result) c.loop-left.left c.loop-left.place c.row_on-row.result c.steady-seconds.result = record {
      is = c.row_on-row.ensures;
      steady = c.steady-seconds.ensures.steady c.loop-left.place c.row_on-row.ensures;
      some = c.steady-seconds.ensures.some;
      few = c.steady-seconds.ensures.within;
    } in
    rw c.of.ensures (stretch_follows c.end-begin.result (14400 - length c.args.strand.now.rows) c.loop-left.invariant next c.end-begin.ensures.end c.requires.early
    (omega (arith, c.end.ensures.kept.short)) (omega (arith, c.min.ensures, c.start.ensures, c.end.ensures.end)))

pub place_at-place-requires : goal.place_at-place-requires
place_at-place-requires c =
    let m = manner c.args.rules.now c.args.bands.now c.args.level in
    let next : IsNext m c.args.leg.now (c.args.leg.now.seconds - c.min.result) c.loop-left.left c.loop-left.place c.row_on-row.result c.steady-seconds.result = record {
      is = c.row_on-row.ensures;
      steady = c.steady-seconds.ensures.steady c.loop-left.place c.row_on-row.ensures;
      some = c.steady-seconds.ensures.some;
      few = c.steady-seconds.ensures.within;
    } in
    stretch_bounded next c.loop-left.invariant.bounded

pub loop-left-preserved : goal.loop-left-preserved
loop-left-preserved c =
    let m = manner c.args.rules.now c.args.bands.now c.args.level in
    let next : IsNext m c.args.leg.now (c.args.leg.now.seconds - c.min.result) c.loop-left.left c.loop-left.place c.row_on-row.result c.steady-seconds.result = record {
      is = c.row_on-row.ensures;
      steady = c.steady-seconds.ensures.steady c.loop-left.place c.row_on-row.ensures;
      some = c.steady-seconds.ensures.some;
      few = c.steady-seconds.ensures.within;
    } in
    stretch_flown c.end-begin.result c.loop-left.invariant next (rw c.of.ensures at c.in_ok-push.ensures.ok) c.place_at-place.ensures

pub returns-clause-rows : goal.returns-clause-rows
returns-clause-rows c =
    rows_flown (14400 - length c.args.strand.now.rows) c.loop-left.invariant (omega (arith, c.loop-left-test.false)) (omega (arith, c.end.ensures.kept.short))
    (omega (arith, c.min.ensures, c.start.ensures, c.end.ensures.end))

pub returns-clause-place : goal.returns-clause-place
returns-clause-place c = λ more.
    place_flown (14400 - length c.args.strand.now.rows) c.loop-left.invariant (omega (arith, c.loop-left-test.false)) (omega (arith, c.end.ensures.kept.short))
    (omega (arith, c.min.ensures, c.start.ensures, c.end.ensures.end)) more

pub returns-in_err-push-clause-rows : goal.returns-in_err-push-clause-rows
returns-in_err-push-clause-rows c = IfOk-from_err _ _ c.from_residual.ensures.0

pub returns-in_err-push-clause-at : goal.returns-in_err-push-clause-at
returns-in_err-push-clause-at c = IfOk-from_err _ _ c.from_residual.ensures.0

pub returns-in_err-push-clause-place : goal.returns-in_err-push-clause-place
returns-in_err-push-clause-place c = IfOk-from_err _ _ c.from_residual.ensures.0

pub row_on-row-requires-clause-manner_kept : goal.row_on-row-requires-clause-manner_kept
row_on-row-requires-clause-manner_kept c = c.requires.manner_kept

pub row_on-row-requires-clause-leg_kept : goal.row_on-row-requires-clause-leg_kept
row_on-row-requires-clause-leg_kept c = c.requires.leg_kept

pub steady-seconds-requires-clause-leg_kept : goal.steady-seconds-requires-clause-leg_kept
steady-seconds-requires-clause-leg_kept c = c.requires.leg_kept

pub steady-seconds-requires-clause-manner_kept : goal.steady-seconds-requires-clause-manner_kept
steady-seconds-requires-clause-manner_kept c = c.requires.manner_kept

pub returns-clause-at : goal.returns-clause-at
returns-clause-at c = c.loop-left.invariant.at

pub returns-clause-start : goal.returns-clause-start
returns-clause-start c = c.loop-left.invariant.start

pub returns-clause-rvsm : goal.returns-clause-rvsm
returns-clause-rvsm c = c.loop-left.invariant.rvsm
