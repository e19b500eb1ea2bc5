use Rattle.mt_load.specs.Load.{EachDivided, IsDroppedFlight}
use Rattle.mt_load.proofs.driving.drop_all.Given as goal

abbrev pub invariant-loop-flight : goal.invariant-loop-flight
invariant-loop-flight g l = EachDivided IsDroppedFlight 5 l.flight l.fn.script l.script
