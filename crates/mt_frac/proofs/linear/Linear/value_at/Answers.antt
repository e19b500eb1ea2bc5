use Rattle.std.proofs.Common.{arith}
use Rattle.std.proofs.lemmas.Int.{to_z-of_z}
use Rattle.mt_frac.proofs.Overflow.{line_fits}
use Rattle.mt_frac.proofs.linear.Linear.value_at.Goals as goal

pub overflow_mul-result : goal.overflow_mul-result
overflow_mul-result c = let fits = line_fits c.args.self c.args.at c.requires.coefficients in grind (arith, to_z-of_z)

pub overflow_mul-result-2 : goal.overflow_mul-result-2
overflow_mul-result-2 c = let fits = line_fits c.args.self c.args.at c.requires.coefficients in grind (arith, to_z-of_z)

pub overflow_add-result : goal.overflow_add-result
overflow_add-result c = let fits = line_fits c.args.self c.args.at c.requires.coefficients in grind (arith, to_z-of_z)

pub returns : goal.returns
returns c = let fits = line_fits c.args.self c.args.at c.requires.coefficients in grind (arith, to_z-of_z)
