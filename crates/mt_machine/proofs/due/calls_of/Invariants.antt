use Rattle.std.proofs.Common.{◌≡◌, ◌≤◌, All, length, take, true}
use Rattle.mt_base.specs.Name.{is_name}
use Rattle.mt_base.specs.Settled.{due_calls}
use Rattle.mt_machine.proofs.due.calls_of.Given as goal

abbrev pub invariant-loop-flight : goal.invariant-loop-flight
invariant-loop-flight l = (l.calls ≡ due_calls (take l.flight-index l.flights)) × (length l.calls ≤ l.flight-index) × All (λ call. is_name 1 7 call ≡ true) l.calls
