use Rattle.std.proofs.Common.{take}
use Rattle.mt_grid.specs.Private.Marks.{AreMarked}
use Rattle.mt_grid.proofs.marks.Marks.numbers.Given as goal

abbrev pub invariant-loop-number : goal.invariant-loop-number
invariant-loop-number l = AreMarked (take l.number l.self) l.numbers.items
