use Rattle.std.proofs.Common.{arith, ◌*ℤ◌}
use Rattle.std.proofs.lemmas.Int.{to_z-of_z}
use Rattle.std.proofs.lemmas.Cmp.{int_ranked}
use Rattle.mt_frac.proofs.Overflow.{cross_fits}
use Rattle.mt_frac.proofs.fraction.Frac.compare.Goals as goal

pub overflow_mul-self : goal.overflow_mul-self
overflow_mul-self c = let fits = cross_fits c.args.self c.args.other in grind (arith, to_z-of_z)

pub overflow_mul-other : goal.overflow_mul-other
overflow_mul-other c = let fits = cross_fits c.args.self c.args.other in grind (arith, to_z-of_z)

pub returns : goal.returns
returns c =
    let f = c.args.self in
    let g = c.args.other in
    let fits = cross_fits f g in
    int_ranked (f.num *ℤ g.den) (g.num *ℤ f.den) c.cmp.result (grind (arith, to_z-of_z))
