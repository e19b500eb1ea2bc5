use Rattle.std.proofs.Common.{Contains, take}
use Rattle.mt_area.specs.Private.Telling.{AddsPierced}
use Rattle.mt_area.proofs.telling.add_all.Given as goal

abbrev pub invariant-loop-told : goal.invariant-loop-told
invariant-loop-told l = AddsPierced (Contains (take l.told-index l.part)) l.initial.found l.found
