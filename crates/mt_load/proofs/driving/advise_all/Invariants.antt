use Rattle.mt_load.specs.Load.{EachDivided, IsAdvisedFlight}
use Rattle.mt_load.proofs.driving.advise_all.Given as goal

abbrev pub invariant-loop-flight : goal.invariant-loop-flight
invariant-loop-flight g l = EachDivided IsAdvisedFlight 8 l.flight l.fn.script l.script
