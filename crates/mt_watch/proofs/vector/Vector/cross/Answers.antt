use Rattle.std.proofs.Common.{arith, subst, sym}
use Rattle.std.proofs.lemmas.Int.{to_z-of_z}
use Rattle.mt_watch.specs.Private.Plane.{IsProduct}
use Rattle.mt_watch.proofs.Sizes.{cross_is_product, products_fit}
use Rattle.mt_watch.proofs.vector.Vector.cross.Goals as goal

pub overflow_mul-result : goal.overflow_mul-result
overflow_mul-result c = let s = products_fit c.args.self c.args.other c.requires.self_small c.requires.other_small in grind (arith, to_z-of_z)

pub overflow_mul-result-2 : goal.overflow_mul-result-2
overflow_mul-result-2 c = let s = products_fit c.args.self c.args.other c.requires.self_small c.requires.other_small in grind (arith, to_z-of_z)

pub overflow_sub-result : goal.overflow_sub-result
overflow_sub-result c = let s = products_fit c.args.self c.args.other c.requires.self_small c.requires.other_small in grind (arith, to_z-of_z)

pub returns-clause-is : goal.returns-clause-is
returns-clause-is c = let s = products_fit c.args.self c.args.other c.requires.self_small c.requires.other_small in grind (arith, to_z-of_z)

pub returns-clause-kept : goal.returns-clause-kept
returns-clause-kept c =
    subst IsProduct (sym (returns-clause-is c)) (cross_is_product c.args.self c.args.other c.requires.self_small c.requires.other_small)
