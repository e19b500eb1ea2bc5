use Rattle.mt_base.specs.Tables.{setup_with}
use Rattle.std.proofs.Common.{take}
use Rattle.mt_machine.proofs.Struck.{AreFoundAmong}
use Rattle.mt_machine.proofs.finding.hits_of.Given as goal

abbrev pub invariant-loop-other : goal.invariant-loop-other
invariant-loop-other l =
    AreFoundAmong (setup_with l.rules l.tables) l.plain-inside.moment (take l.other-index l.other-items) l.call l.strand l.hits
