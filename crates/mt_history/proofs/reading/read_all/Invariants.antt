use Rattle.std.proofs.Common.{All, length}
use Rattle.mt_history.specs.Rebuilt.{IsReadyToDecide}
use Rattle.mt_history.proofs.LinesRead.{IsReadUpTo}
use Rattle.mt_history.proofs.reading.read_all.Given as goal

abbrev pub invariant-loop-rest : goal.invariant-loop-rest
invariant-loop-rest l = record { up_to : IsReadUpTo l.bytes l.rest l.entries; ready : All IsReadyToDecide l.entries }

abbrev pub decreases-loop-rest : goal.decreases-loop-rest
decreases-loop-rest l = length l.rest
