use Rattle.std.proofs.Common.{◌↔◌, ℕ, take}
use Rattle.mt_grid.specs.Lists.{IsNear}
use Rattle.mt_grid.specs.Private.Marks.{IsMarked}
use Rattle.mt_grid.proofs.grid.Grid.near.Given as goal

abbrev pub invariant-loop-stay : goal.invariant-loop-stay
invariant-loop-stay l = (item : ℕ) → IsMarked l.marks item ↔ IsNear l.self (take l.stay-index l.cover) item
