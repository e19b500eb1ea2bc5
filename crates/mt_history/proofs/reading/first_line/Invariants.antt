use Rattle.mt_history.proofs.Cutting.{IsClear}
use Rattle.mt_history.proofs.reading.first_line.Given as goal

abbrev pub invariant-loop-end : goal.invariant-loop-end
invariant-loop-end l = IsClear l.bytes l.end
