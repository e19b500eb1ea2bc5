use Rattle.std.proofs.Common.{take}
use Rattle.mt_base.specs.Tables.{setup_with}
use Rattle.mt_machine.specs.Private.Advising.{AreFreeAmong}
use Rattle.mt_machine.proofs.advising.free_among.Given as goal

abbrev pub invariant-loop-clearance : goal.invariant-loop-clearance
invariant-loop-clearance g l = AreFreeAmong (setup_with l.rules l.tables) l.plain l.call (take l.clearance-index l.tried) l.free
