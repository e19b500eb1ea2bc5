use Rattle.std.proofs.Common.{◌≡◌}
use Rattle.mt_turn.specs.declared.view.Phase.TheVariants.{Idle}
use Rattle.mt_turn.specs.Lending.{AreViewsOfOneSeat}
use Rattle.mt_top_checks.proofs.desks.turns.take_turns.Given as goal

abbrev pub invariant-loop-i : goal.invariant-loop-i
invariant-loop-i g l = (l.seat.home ≡ l.fn.turn) × (l.seat.view.phase ≡ Idle) × AreViewsOfOneSeat l.initial.seat.view l.seat.view
