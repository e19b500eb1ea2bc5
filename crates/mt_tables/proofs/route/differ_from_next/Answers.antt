use Rattle.std.proofs.Common.{◌≤◌, ◌∙◌, sym, drop, length, length-drop, arith}
use Rattle.mt_tables.proofs.Lists.{few_differ}
use Rattle.mt_tables.proofs.route.differ_from_next.Goals as goal

pub returns : goal.returns
returns c =
    let few : length (drop c.loop-i.i c.args.names.now) ≤ 1 = omega (arith, length-drop c.loop-i.i c.args.names.now) in
    sym (c.loop-i.invariant.same ∙ few_differ _ few)
