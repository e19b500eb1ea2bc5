use Rattle.std.proofs.Common.{take}
use Rattle.mt_area.specs.Adding.{IsTaken}
use Rattle.mt_area.proofs.areas.is_taken.Given as goal

abbrev pub invariant-loop-area : goal.invariant-loop-area
invariant-loop-area l = ¬ IsTaken (take l.area-index l.areas) l.name
