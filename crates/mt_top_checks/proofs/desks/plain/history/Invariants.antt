use Rattle.mt_base.specs.Tables.{setup_with}
use Rattle.mt_change.specs.Sound.{IsSoundState}
use Rattle.mt_top_checks.specs.Same.{IsSameHand}
use Rattle.mt_top_checks.proofs.desks.plain.history.Given as goal

abbrev pub invariant-loop : goal.invariant-loop
invariant-loop g l = IsSoundState (setup_with l.rules l.tables) l.plain × IsSameHand l.initial.hand l.hand
