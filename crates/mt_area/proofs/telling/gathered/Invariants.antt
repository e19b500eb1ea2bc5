use Rattle.mt_area.specs.Private.Telling.{AreOfAll}
use Rattle.mt_area.proofs.telling.gathered.Given as goal

abbrev pub invariant-loop-part : goal.invariant-loop-part
invariant-loop-part l = AreOfAll l.yielded l.found
