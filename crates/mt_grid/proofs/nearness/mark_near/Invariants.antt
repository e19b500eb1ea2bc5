use Rattle.std.proofs.Common.{◌↔◌, ◌⊎◌, ℕ, take}
use Rattle.mt_grid.specs.Lists.{IsNearIn}
use Rattle.mt_grid.specs.Private.Marks.{IsMarked}
use Rattle.mt_grid.proofs.nearness.mark_near.Given as goal

abbrev pub invariant-loop-placed : goal.invariant-loop-placed
invariant-loop-placed l = (item : ℕ) → IsMarked l.marks item ↔ (IsMarked l.initial.marks item ⊎ IsNearIn (take l.placed-index l.list) l.stay item)
