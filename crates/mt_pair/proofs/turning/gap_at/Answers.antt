use Rattle.std.proofs.Common.{pos, arith}
use Rattle.std.proofs.lemmas.Int.{to_z-of_z}
use Rattle.mt_pair.proofs.Wholes.{gap_fits, whole_value}
use Rattle.mt_pair.proofs.turning.gap_at.Goals as goal

pub overflow_mul-result : goal.overflow_mul-result
overflow_mul-result c = let s = gap_fits c.args.gap c.args.k c.requires.bounded c.requires.short in grind (arith, to_z-of_z)

pub overflow_add-result : goal.overflow_add-result
overflow_add-result c = let s = gap_fits c.args.gap c.args.k c.requires.bounded c.requires.short in grind (arith, to_z-of_z)

pub overflow_mul-result-2 : goal.overflow_mul-result-2
overflow_mul-result-2 c = let s = gap_fits c.args.gap c.args.k c.requires.bounded c.requires.short in grind (arith, to_z-of_z)

pub overflow_add-result-2 : goal.overflow_add-result-2
overflow_add-result-2 c = let s = gap_fits c.args.gap c.args.k c.requires.bounded c.requires.short in grind (arith, to_z-of_z)

pub returns : goal.returns
returns c =
    let s = gap_fits c.args.gap c.args.k c.requires.bounded c.requires.short in
    rw (← whole_value c.args.gap.a c.args.gap.b c.args.gap.c (pos c.args.k)) (grind (arith, to_z-of_z))
