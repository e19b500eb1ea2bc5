use Rattle.std.proofs.Common.{arith}
use Rattle.std.proofs.lemmas.Int.{ints}
use Rattle.mt_predict.specs.Manners.{manner}
use Rattle.mt_predict.proofs.Casts.{as_is}
use Rattle.mt_predict.proofs.Steadiness.{steady_is}
use Rattle.mt_predict.proofs.steady.steady.Goals as goal

pub returns-clause-steady : goal.returns-clause-steady
returns-clause-steady c = λ a is k some below.
    let rules = c.args.rules.now in
    let gh = c.requires.manner_kept.rules.gh in
    let rmax = c.requires.manner_kept.rules.rmax in
    let r = c.requires.row_kept.r in
    let dx = c.requires.leg_kept.east in
    let dy = c.requires.leg_kept.north in
    let east = rw (as_is c.args.leg.now.dx (omega (arith, ints, dx)) (omega (arith, ints, dx))) at c.phase-east.ensures.same k (omega (arith, c.min.ensures, c.min-2.ensures, c.min-3.ensures)) in
    let north = rw (as_is c.args.leg.now.dy (omega (arith, ints, dy)) (omega (arith, ints, dy))) at c.phase-north.ensures.same k (omega (arith, c.min-3.ensures)) in
    let growth = rw (
      as_is rules.gh (omega (arith, ints, gh)) (omega (arith, ints, gh)),
      as_is rules.rmax (omega (arith, ints, rmax)) (omega (arith, ints, rmax)),
      as_is c.args.row.now.r (omega (arith, ints, r, rmax)) (omega (arith, ints, r, rmax)),
    ) at c.growing-grown.ensures.same k (omega (arith, c.min.ensures, c.min-2.ensures, c.min-3.ensures)) in
    steady_is (manner rules c.args.bands.now c.args.level) c.args.leg.now c.args.left k a c.args.row.now is east north
    (c.vertical.ensures.climb k (omega (arith, c.min.ensures, c.min-2.ensures, c.min-3.ensures))) growth
    (c.vertical.ensures.margin k (omega (arith, c.min.ensures, c.min-2.ensures, c.min-3.ensures)))

pub phase-east-requires-clause-kept : goal.phase-east-requires-clause-kept
phase-east-requires-clause-kept c =
    let dx = c.requires.leg_kept.east in
    rw (as_is c.args.leg.now.dx (omega (arith, ints, dx)) (omega (arith, ints, dx))) dx

pub phase-north-requires-clause-kept : goal.phase-north-requires-clause-kept
phase-north-requires-clause-kept c =
    let dy = c.requires.leg_kept.north in
    rw (as_is c.args.leg.now.dy (omega (arith, ints, dy)) (omega (arith, ints, dy))) dy

pub growing-grown-requires-clause-gain_kept : goal.growing-grown-requires-clause-gain_kept
growing-grown-requires-clause-gain_kept c =
    let gh = c.requires.manner_kept.rules.gh in
    rw (as_is c.args.rules.now.gh (omega (arith, ints, gh)) (omega (arith, ints, gh))) (omega (arith, ints, gh))

pub growing-grown-requires-clause-greatest_kept : goal.growing-grown-requires-clause-greatest_kept
growing-grown-requires-clause-greatest_kept c =
    let rmax = c.requires.manner_kept.rules.rmax in
    rw (as_is c.args.rules.now.rmax (omega (arith, ints, rmax)) (omega (arith, ints, rmax))) (omega (arith, ints, rmax))

pub growing-grown-requires-clause-margin_kept : goal.growing-grown-requires-clause-margin_kept
growing-grown-requires-clause-margin_kept c =
    let rmax = c.requires.manner_kept.rules.rmax in
    let r = c.requires.row_kept.r in
    rw (as_is c.args.rules.now.rmax (omega (arith, ints, rmax)) (omega (arith, ints, rmax)), as_is c.args.row.now.r (omega (arith, ints, r, rmax)) (omega (arith, ints, r, rmax))) r

pub vertical-requires-clause-manner_kept : goal.vertical-requires-clause-manner_kept
vertical-requires-clause-manner_kept c = c.requires.manner_kept

pub vertical-requires-clause-row_kept : goal.vertical-requires-clause-row_kept
vertical-requires-clause-row_kept c = c.requires.row_kept

pub returns-clause-within : goal.returns-clause-within
returns-clause-within c = omega (arith, c.min.ensures, c.min-2.ensures, c.min-3.ensures, c.growing-grown.ensures.within)

pub returns-clause-some : goal.returns-clause-some
returns-clause-some c =
    omega (arith, c.min.ensures, c.min-2.ensures, c.min-3.ensures, c.vertical.ensures.some, c.growing-grown.ensures.some, c.phase-east.ensures.some, c.phase-north.ensures.some)
