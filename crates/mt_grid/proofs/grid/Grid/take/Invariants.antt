use Rattle.std.proofs.Common.{◌≡◌, take}
use Rattle.mt_grid.specs.Lists.{without_stays}
use Rattle.mt_grid.proofs.grid.Grid.take.Given as goal

abbrev pub invariant-loop-stay : goal.invariant-loop-stay
invariant-loop-stay l = l.grid ≡ without_stays l.item l.self (take l.stay-index l.cover)
