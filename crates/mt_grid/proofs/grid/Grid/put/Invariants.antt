use Rattle.std.proofs.Common.{◌≡◌, take}
use Rattle.mt_grid.specs.Lists.{with_stays}
use Rattle.mt_grid.proofs.grid.Grid.put.Given as goal

abbrev pub invariant-loop-stay : goal.invariant-loop-stay
invariant-loop-stay l = l.grid ≡ with_stays l.item l.self (take l.stay-index l.cover)
