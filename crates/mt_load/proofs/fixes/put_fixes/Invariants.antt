use Rattle.std.proofs.Common.{◌≡◌, ◌++◌}
use Rattle.mt_load.specs.Input.{each_below, fix}
use Rattle.mt_load.proofs.fixes.put_fixes.Given as goal

abbrev pub invariant-loop-number : goal.invariant-loop-number
invariant-loop-number l = l.list.items ≡ l.fn.list.items ++ each_below fix l.number
