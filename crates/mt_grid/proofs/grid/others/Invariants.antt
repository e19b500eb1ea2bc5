use Rattle.std.proofs.Common.{◌≡◌, take}
use Rattle.mt_grid.specs.Lists.{others}
use Rattle.mt_grid.proofs.grid.others.Given as goal

abbrev pub invariant-loop-placed : goal.invariant-loop-placed
invariant-loop-placed l = l.left ≡ others l.item (take l.placed-index l.list)
