use Rattle.std.proofs.Common.{arith}
use Rattle.std.proofs.lemmas.Int.{to_z-of_z}
use Rattle.mt_area.proofs.Sides.{after_fits}
use Rattle.mt_area.proofs.lines.value_after.Goals as goal

pub overflow_mul-after : goal.overflow_mul-after
overflow_mul-after c = let s = after_fits c.args.line c.args.seconds c.requires.bounded c.requires.short in grind (arith, to_z-of_z)

pub overflow_add-after : goal.overflow_add-after
overflow_add-after c = let s = after_fits c.args.line c.args.seconds c.requires.bounded c.requires.short in grind (arith, to_z-of_z)

pub returns : goal.returns
returns c = let s = after_fits c.args.line c.args.seconds c.requires.bounded c.requires.short in grind (arith, to_z-of_z)
