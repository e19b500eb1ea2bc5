use Rattle.std.proofs.Common.{arith}
use Rattle.std.proofs.lemmas.Int.{to_z-of_z}
use Rattle.mt_frac.proofs.Overflow.{discriminant_fits}
use Rattle.mt_frac.proofs.quadratic.Quad.discriminant.Goals as goal

pub overflow_mul-result : goal.overflow_mul-result
overflow_mul-result c = let fits = discriminant_fits c.args.self c.requires.coefficients in grind (arith, to_z-of_z)

pub overflow_mul-result-2 : goal.overflow_mul-result-2
overflow_mul-result-2 c = let fits = discriminant_fits c.args.self c.requires.coefficients in grind (arith, to_z-of_z)

pub overflow_mul-result-3 : goal.overflow_mul-result-3
overflow_mul-result-3 c = let fits = discriminant_fits c.args.self c.requires.coefficients in grind (arith, to_z-of_z)

pub overflow_sub-result : goal.overflow_sub-result
overflow_sub-result c = let fits = discriminant_fits c.args.self c.requires.coefficients in grind (arith, to_z-of_z)

pub returns : goal.returns
returns c = let fits = discriminant_fits c.args.self c.requires.coefficients in grind (arith, to_z-of_z)
