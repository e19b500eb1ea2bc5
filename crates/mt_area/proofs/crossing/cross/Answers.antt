use Rattle.std.proofs.Common.{arith}
use Rattle.std.proofs.lemmas.Int.{to_z-of_z}
use Rattle.mt_area.proofs.Sides.{cross_fits}
use Rattle.mt_area.proofs.crossing.cross.Goals as goal

pub overflow_mul-product : goal.overflow_mul-product
overflow_mul-product c = let s = cross_fits c.args.x c.args.y c.args.u c.args.v c.requires.x_kept c.requires.y_kept c.requires.u_kept c.requires.v_kept in grind (arith, to_z-of_z)

pub overflow_mul-product-2 : goal.overflow_mul-product-2
overflow_mul-product-2 c = let s = cross_fits c.args.x c.args.y c.args.u c.args.v c.requires.x_kept c.requires.y_kept c.requires.u_kept c.requires.v_kept in grind (arith, to_z-of_z)

pub overflow_sub-product : goal.overflow_sub-product
overflow_sub-product c = let s = cross_fits c.args.x c.args.y c.args.u c.args.v c.requires.x_kept c.requires.y_kept c.requires.u_kept c.requires.v_kept in grind (arith, to_z-of_z)

pub returns : goal.returns
returns c = let s = cross_fits c.args.x c.args.y c.args.u c.args.v c.requires.x_kept c.requires.y_kept c.requires.u_kept c.requires.v_kept in grind (arith, to_z-of_z)
