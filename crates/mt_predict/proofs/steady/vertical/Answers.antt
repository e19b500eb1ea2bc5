use Rattle.std.proofs.Common.{arith}
use Rattle.std.proofs.lemmas.Int.{ints}
use Rattle.mt_predict.proofs.Casts.{as_is}
use Rattle.mt_predict.proofs.Climbs.{climb_kept}
use Rattle.mt_predict.proofs.Margins.{margin_gain_stays}
use Rattle.mt_predict.proofs.steady.vertical.Goals as goal

pub climbing-seconds-requires-clause-climbs : goal.climbing-seconds-requires-clause-climbs
climbing-seconds-requires-clause-climbs c =
    let row = c.args.row.now in
    let rate = climb_kept c.args.rules.now c.args.bands.now c.args.level row.z row.vz c.requires.manner_kept.bands c.requires.row_kept.climb in
    let height = c.requires.row_kept.height in (
      c.args.rules.now,
      rw (as_is row.vz (omega (arith, ints, rate)) (omega (arith, ints, rate)), as_is row.z (omega (arith, ints, height)) (omega (arith, ints, height)))
          c.requires.row_kept.climb,
    )

pub returns-else-row-eq0-clause-climb : goal.returns-else-row-eq0-clause-climb
returns-else-row-eq0-clause-climb c = λ k below.
    let row = c.args.row.now in
    let rate = climb_kept c.args.rules.now c.args.bands.now c.args.level row.z row.vz c.requires.manner_kept.bands c.requires.row_kept.climb in
    let height = c.requires.row_kept.height in
    rw (as_is row.vz (omega (arith, ints, rate)) (omega (arith, ints, rate)), as_is row.z (omega (arith, ints, height)) (omega (arith, ints, height)))
    at c.climbing-seconds.ensures.same c.args.rules.now k (omega (arith, c.growing.ensures.within))

pub returns-else-row-eq0-clause-margin : goal.returns-else-row-eq0-clause-margin
returns-else-row-eq0-clause-margin c = λ k below.
    let row = c.args.row.now in
    let rules = c.args.rules.now in
    let gv = c.requires.manner_kept.rules.gv in
    let wmax = c.requires.manner_kept.rules.wmax in
    let w = c.requires.row_kept.w in
    margin_gain_stays rules row.vz row.w k c.if-row-eq0.false
    (rw (
      as_is rules.gv (omega (arith, ints, gv)) (omega (arith, ints, gv)),
      as_is rules.wmax (omega (arith, ints, wmax)) (omega (arith, ints, wmax)),
      as_is row.w (omega (arith, ints, w, wmax)) (omega (arith, ints, w, wmax)),
    ) at c.growing.ensures.same k below)

pub climbing-seconds-requires-clause-height : goal.climbing-seconds-requires-clause-height
climbing-seconds-requires-clause-height c =
    let height = c.requires.row_kept.height in
    rw (as_is c.args.row.now.z (omega (arith, ints, height)) (omega (arith, ints, height))) height

pub growing-requires-clause-gain_kept : goal.growing-requires-clause-gain_kept
growing-requires-clause-gain_kept c =
    let gv = c.requires.manner_kept.rules.gv in
    rw (as_is c.args.rules.now.gv (omega (arith, ints, gv)) (omega (arith, ints, gv))) gv

pub growing-requires-clause-greatest_kept : goal.growing-requires-clause-greatest_kept
growing-requires-clause-greatest_kept c =
    let wmax = c.requires.manner_kept.rules.wmax in
    rw (as_is c.args.rules.now.wmax (omega (arith, ints, wmax)) (omega (arith, ints, wmax))) wmax

pub growing-requires-clause-margin_kept : goal.growing-requires-clause-margin_kept
growing-requires-clause-margin_kept c =
    let wmax = c.requires.manner_kept.rules.wmax in
    let w = c.requires.row_kept.w in
    rw (as_is c.args.rules.now.wmax (omega (arith, ints, wmax)) (omega (arith, ints, wmax)), as_is c.args.row.now.w (omega (arith, ints, w, wmax)) (omega (arith, ints, w, wmax))) w
