use Rattle.std.proofs.Common.{arith}
use Rattle.std.proofs.lemmas.Int.{to_z-of_z}
use Rattle.mt_watch.proofs.Sizes.{squares_fit}
use Rattle.mt_watch.proofs.watching.is_beyond.Goals as goal

pub overflow_mul-result-2 : goal.overflow_mul-result-2
overflow_mul-result-2 c =
    let s = squares_fit c.args.tolerance.now c.args.product c.args.squared c.requires.tolerance_kept c.requires.product_kept c.requires.squared_kept in
    rw c.square.ensures (grind (arith, to_z-of_z))

pub returns : goal.returns
returns c =
    let s = squares_fit c.args.tolerance.now c.args.product c.args.squared c.requires.tolerance_kept c.requires.product_kept c.requires.squared_kept in
    rw c.square.ensures (grind (arith, to_z-of_z))
