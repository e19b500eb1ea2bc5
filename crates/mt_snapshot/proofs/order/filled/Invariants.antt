use Rattle.mt_snapshot.proofs.Filling.{AreBelow}
use Rattle.mt_snapshot.proofs.order.filled.Given as goal

abbrev pub invariant-loop-place : goal.invariant-loop-place
invariant-loop-place l = AreBelow l.snapshot l.all.items l.place
