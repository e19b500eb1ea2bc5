use Rattle.mt_top_checks.specs.Same.{IsSameHand}
use Rattle.mt_top_checks.proofs.desks.filing.file.Given as goal

abbrev pub invariant-loop-number : goal.invariant-loop-number
invariant-loop-number g l = IsSameHand l.initial.hand l.hand
