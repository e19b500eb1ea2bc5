use Rattle.std.proofs.Common.{◌≡◌, ◌-ℤ◌, arith, to_z, of_z}
use Rattle.std.proofs.lemmas.Int.{ints}
use mir.Syntax.{w128}
use Rattle.mt_watch.proofs.vector.Vector.offset.Goals as goal

pub returns-clause-is : goal.returns-clause-is
returns-clause-is c =
    let east : to_z w128 (of_z w128 c.from.result) ≡ c.args.report.now.x -ℤ c.args.row.now.x = omega (arith, ints) in
    let north : to_z w128 (of_z w128 c.from-2.result) ≡ c.args.report.now.y -ℤ c.args.row.now.y = omega (arith, ints) in
    λ i. record { x = east i; y = north i }
