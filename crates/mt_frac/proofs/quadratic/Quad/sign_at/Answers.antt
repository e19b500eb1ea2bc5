use Rattle.std.proofs.Common.{arith}
use Rattle.std.proofs.lemmas.Int.{to_z-of_z}
use Rattle.mt_frac.proofs.Overflow.{value_fits}
use Rattle.mt_frac.proofs.quadratic.Quad.sign_at.Goals as goal

pub overflow_mul-square : goal.overflow_mul-square
overflow_mul-square c = let fits = value_fits c.args.self c.args.at c.requires.coefficients in grind (arith, to_z-of_z)

pub overflow_mul-square-2 : goal.overflow_mul-square-2
overflow_mul-square-2 c = let fits = value_fits c.args.self c.args.at c.requires.coefficients in grind (arith, to_z-of_z)

pub overflow_mul-linear : goal.overflow_mul-linear
overflow_mul-linear c = let fits = value_fits c.args.self c.args.at c.requires.coefficients in grind (arith, to_z-of_z)

pub overflow_mul-linear-2 : goal.overflow_mul-linear-2
overflow_mul-linear-2 c = let fits = value_fits c.args.self c.args.at c.requires.coefficients in grind (arith, to_z-of_z)

pub overflow_mul-constant : goal.overflow_mul-constant
overflow_mul-constant c = let fits = value_fits c.args.self c.args.at c.requires.coefficients in grind (arith, to_z-of_z)

pub overflow_mul-constant-2 : goal.overflow_mul-constant-2
overflow_mul-constant-2 c = let fits = value_fits c.args.self c.args.at c.requires.coefficients in grind (arith, to_z-of_z)

pub overflow_add-square : goal.overflow_add-square
overflow_add-square c = let fits = value_fits c.args.self c.args.at c.requires.coefficients in grind (arith, to_z-of_z)

pub overflow_add-square-2 : goal.overflow_add-square-2
overflow_add-square-2 c = let fits = value_fits c.args.self c.args.at c.requires.coefficients in grind (arith, to_z-of_z)

pub returns : goal.returns
returns c = let fits = value_fits c.args.self c.args.at c.requires.coefficients in grind (arith, to_z-of_z)
