use Rattle.std.proofs.Common.{pos, ◌<ℤ◌, ◌≤ℤ◌, ◌∙◌, arith, refl}
use Rattle.std.proofs.lemmas.Int.{clamps, ints}
use Rattle.mt_base.specs.Bounds.{IsHeight}
use Rattle.mt_predict.proofs.Layers.{down_is, natural_height, up_is}
use Rattle.mt_predict.proofs.steady.reach.Goals as goal

pub overflow_add-layer : goal.overflow_add-layer
overflow_add-layer c = omega (arith, ints, c.requires.highest, c.requires.lowest, c.requires.rate)

pub overflow_sub-result : goal.overflow_sub-result
overflow_sub-result c =
    omega (arith, ints, clamps, c.requires.to, c.requires.highest, c.requires.lowest, c.requires.rate, c.min.ensures.value)

pub overflow_cast-result : goal.overflow_cast-result
overflow_cast-result c =
    let height : IsHeight c.args.z = omega (arith, ints, c.requires.lowest, c.requires.highest) in
    let climbs : pos 0 <ℤ c.args.climb = omega (arith, ints, c.requires.rate, c.if-climb-gt0.true) in
    let kept = (up_is c.args.to c.args.z c.args.layer.highest c.args.climb c.min.result _ c.requires.to height c.requires.highest c.requires.rate
    climbs (c.requires.up climbs) c.min.ensures.value refl).0 in
    omega (arith, ints, kept)

pub returns-then-climb-gt0-clause-up : goal.returns-then-climb-gt0-clause-up
returns-then-climb-gt0-clause-up c = λ climbs.
    let height : IsHeight c.args.z = omega (arith, ints, c.requires.lowest, c.requires.highest) in
    let is = up_is c.args.to c.args.z c.args.layer.highest c.args.climb c.min.result _ c.requires.to height c.requires.highest c.requires.rate
    climbs (c.requires.up climbs) c.min.ensures.value refl in
    natural_height _ is.0 ∙ is.1

pub overflow_cast-result-else-climb-gt0 : goal.overflow_cast-result-else-climb-gt0
overflow_cast-result-else-climb-gt0 c =
    let height : IsHeight c.args.z = omega (arith, ints, c.requires.lowest, c.requires.highest) in
    let descends : c.args.climb ≤ℤ pos 0 = omega (arith, ints, c.requires.rate, c.if-climb-gt0.false) in
    let kept = (down_is c.args.to c.args.z c.args.layer.lowest c.args.climb c.max.result _ c.requires.to height c.requires.lowest c.requires.rate
    descends (c.requires.down descends) c.max.ensures.value refl).0 in
    omega (arith, ints, kept)

pub returns-else-climb-gt0-clause-down : goal.returns-else-climb-gt0-clause-down
returns-else-climb-gt0-clause-down c = λ descends.
    let height : IsHeight c.args.z = omega (arith, ints, c.requires.lowest, c.requires.highest) in
    let is = down_is c.args.to c.args.z c.args.layer.lowest c.args.climb c.max.result _ c.requires.to height c.requires.lowest c.requires.rate
    descends (c.requires.down descends) c.max.ensures.value refl in
    natural_height _ is.0 ∙ is.1
