use Rattle.std.proofs.Common.{pos, arith}
use Rattle.std.proofs.lemmas.Int.{to_z-of_z}
use Rattle.mt_pair.proofs.Wholes.{line_fits, whole_line}
use Rattle.mt_pair.proofs.turning.line_at.Goals as goal

pub overflow_mul-result : goal.overflow_mul-result
overflow_mul-result c = let s = line_fits c.args.line c.args.k c.requires.bounded c.requires.short in grind (arith, to_z-of_z)

pub overflow_add-result : goal.overflow_add-result
overflow_add-result c = let s = line_fits c.args.line c.args.k c.requires.bounded c.requires.short in grind (arith, to_z-of_z)

pub returns : goal.returns
returns c =
    let s = line_fits c.args.line c.args.k c.requires.bounded c.requires.short in
    rw (← whole_line c.args.line.b c.args.line.c (pos c.args.k)) (grind (arith, to_z-of_z))
