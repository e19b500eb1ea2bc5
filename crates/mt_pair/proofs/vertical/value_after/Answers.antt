use Rattle.std.proofs.Common.{arith}
use Rattle.std.proofs.lemmas.Int.{to_z-of_z}
use Rattle.mt_pair.proofs.Wholes.{after_fits}
use Rattle.mt_pair.proofs.vertical.value_after.Goals as goal

pub overflow_mul-result : goal.overflow_mul-result
overflow_mul-result c = let s = after_fits c.args.line c.args.seconds c.requires.bounded c.ranges.seconds.fits in rw c.from.ensures (grind (arith, to_z-of_z))

pub overflow_add-result : goal.overflow_add-result
overflow_add-result c = let s = after_fits c.args.line c.args.seconds c.requires.bounded c.ranges.seconds.fits in rw c.from.ensures (grind (arith, to_z-of_z))

pub returns : goal.returns
returns c = let s = after_fits c.args.line c.args.seconds c.requires.bounded c.ranges.seconds.fits in rw c.from.ensures (grind (arith, to_z-of_z))
