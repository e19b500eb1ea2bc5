use Rattle.std.proofs.Common.{◌≡◌, take}
use Rattle.mt_machine.proofs.plain.copies.Given as goal

abbrev pub invariant-loop-flight : goal.invariant-loop-flight
invariant-loop-flight l = l.copies.items ≡ take l.flight-index l.flights
