use Rattle.std.proofs.Common.{arith}
use Rattle.std.proofs.lemmas.Int.{to_z-of_z}
use Rattle.mt_pair.proofs.Sizes.{product_fits}
use Rattle.mt_pair.proofs.horizontal.product.Goals as goal

pub overflow_mul-square : goal.overflow_mul-square
overflow_mul-square c = let s = product_fits c.args.p c.args.q c.requires.p_kept c.requires.q_kept in grind (arith, to_z-of_z)

pub overflow_mul-square-2 : goal.overflow_mul-square-2
overflow_mul-square-2 c = let s = product_fits c.args.p c.args.q c.requires.p_kept c.requires.q_kept in grind (arith, to_z-of_z)

pub overflow_add-square : goal.overflow_add-square
overflow_add-square c = let s = product_fits c.args.p c.args.q c.requires.p_kept c.requires.q_kept in grind (arith, to_z-of_z)

pub overflow_mul-square-3 : goal.overflow_mul-square-3
overflow_mul-square-3 c = let s = product_fits c.args.p c.args.q c.requires.p_kept c.requires.q_kept in grind (arith, to_z-of_z)

pub overflow_sub-square : goal.overflow_sub-square
overflow_sub-square c = let s = product_fits c.args.p c.args.q c.requires.p_kept c.requires.q_kept in grind (arith, to_z-of_z)

pub returns : goal.returns
returns c = let s = product_fits c.args.p c.args.q c.requires.p_kept c.requires.q_kept in grind (arith, to_z-of_z)
