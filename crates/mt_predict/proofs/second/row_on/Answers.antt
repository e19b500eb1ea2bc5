use Rattle.std.proofs.Common.{w64, rules, arith, FitsSigned}
use Rattle.std.proofs.lemmas.Int.{ints, to_z-of_z}
use Rattle.mt_base.specs.Predictor.{row_on}
use Rattle.mt_predict.proofs.Casts.{as_is, growth_is}
use Rattle.mt_predict.proofs.Reading.{row_is}
use Rattle.mt_predict.proofs.second.row_on.Goals as goal

pub climb_from-climb-requires-clause-height : goal.climb_from-climb-requires-clause-height
unfolding row_on
climb_from-climb-requires-clause-height c =
    let value = c.requires.bounded.z.value in
    rw (as_is c.args.a.now.z (omega (arith, ints, value)) (omega (arith, ints, value))) value

pub overflow_sub-rules : goal.overflow_sub-rules
unfolding row_on
overflow_sub-rules c = omega (arith, ints, c.requires.bounded.r.value, c.requires.manner_kept.rules.rmax)

pub margin_gain-requires-clause-kept : goal.margin_gain-requires-clause-kept
unfolding row_on
margin_gain-requires-clause-kept c =
    let height : FitsSigned w64 c.args.a.now.z = search rules in
    let margin : FitsSigned w64 c.args.a.now.w = search rules in
    rw (
      to_z-of_z w64 c.climb_from-climb.result (record { sfits = c.climb_from-climb.type_inv }),
      c.climb_from-climb.ensures c.args.rules.now,
      to_z-of_z w64 c.args.a.now.z height,
      to_z-of_z w64 c.args.a.now.w margin,
    ) c.requires.bounded.w.value

pub returns : goal.returns
unfolding row_on
returns c =
    let x = c.requires.bounded.x.value in
    let y = c.requires.bounded.y.value in
    let z = c.requires.bounded.z.value in
    let r = c.requires.bounded.r.value in
    let dx = c.requires.leg_kept.east in
    let dy = c.requires.leg_kept.north in
    let margin : FitsSigned w64 c.args.a.now.w = search rules in
    let gh = c.requires.manner_kept.rules.gh in
    let rmax = c.requires.manner_kept.rules.rmax in
    row_is c.args.rules.now c.args.bands.now c.args.level c.args.leg.now c.args.n c.args.a.now c.climb_from-climb.result c.margin_at.result
    c.gain_with.result c.gain_with-2.result c.min.result c.margin_gain.result
    (as_is _ (omega (arith, ints, x)) (omega (arith, ints, x))) (as_is _ (omega (arith, ints, y)) (omega (arith, ints, y)))
    (as_is _ (omega (arith, ints, z)) (omega (arith, ints, z))) (as_is _ (omega (arith, ints, r)) (omega (arith, ints, r)))
    (to_z-of_z w64 _ margin) (as_is _ (omega (arith, ints, dx)) (omega (arith, ints, dx))) (as_is _ (omega (arith, ints, dy)) (omega (arith, ints, dy)))
    (to_z-of_z w64 _ (record { sfits = c.climb_from-climb.type_inv })) (to_z-of_z w64 _ (record { sfits = c.margin_at.type_inv }))
    (to_z-of_z w64 _ (record { sfits = c.gain_with.type_inv })) (to_z-of_z w64 _ (record { sfits = c.gain_with-2.type_inv }))
    (to_z-of_z w64 _ (record { sfits = c.margin_gain.type_inv })) (c.climb_from-climb.ensures c.args.rules.now) c.margin_at.ensures c.gain_with.ensures c.gain_with-2.ensures
    (growth_is c.args.rules.now.gh c.args.rules.now.rmax c.args.a.now.r c.min.result (omega (arith, ints, gh)) (omega (arith, ints, rmax)) (omega (arith, ints, r)) c.min.ensures.value)
    c.margin_gain.ensures
