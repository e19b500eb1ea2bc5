use Rattle.std.proofs.Common.{◌≡◌, ◌*◌, pos, neg_ℤ, ◌-ℤ◌, to_z, of_z, arith}
use Rattle.std.proofs.lemmas.Int.{ints}
use mir.Syntax.{w128}
use Rattle.mt_area.proofs.lines.floor.Goals as goal

pub returns-clause-is : goal.returns-clause-is
returns-clause-is c =
    let z = c.requires.row_kept.z in
    let b : to_z w128 (of_z w128 (pos 0 -ℤ to_z w128 (of_z w128 c.from.result))) ≡ neg_ℤ c.args.row.now.vz =
    omega (arith, ints, z.growth.least, z.growth.most) in
    let d : to_z w128 (of_z w128 c.from-2.result) ≡ pos (6000 * c.args.level) -ℤ c.args.row.now.z =
    omega (arith, ints, z.value.least, z.value.most) in
    λ i. record { b = b i; c = d i }
