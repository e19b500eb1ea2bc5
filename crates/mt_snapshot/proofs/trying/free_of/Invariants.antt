use Rattle.mt_snapshot.specs.Private.Trying.{AreFreeOf}
use Rattle.mt_snapshot.proofs.trying.free_of.Given as goal

abbrev pub invariant-loop-found : goal.invariant-loop-found
invariant-loop-found l = AreFreeOf l.yielded l.free.items
