use Rattle.std.proofs.Common.{◌≤◌, ◌∙◌, sym, drop, length, length-drop, arith}
use Rattle.mt_tables.proofs.Lists.{few_rise}
use Rattle.mt_tables.proofs.bands.tops_rise.Goals as goal

pub returns : goal.returns
returns c =
    let few : length (drop c.loop-i.i c.args.bands.now) ≤ 1 = omega (arith, length-drop c.loop-i.i c.args.bands.now) in
    sym (c.loop-i.invariant.same ∙ few_rise _ few)
