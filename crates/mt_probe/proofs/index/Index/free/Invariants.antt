use Rattle.mt_probe.specs.Private.Indexed.{AreFilled}
use Rattle.mt_probe.proofs.index.Index.free.Given as goal

abbrev pub invariant-loop-slot : goal.invariant-loop-slot
invariant-loop-slot l = AreFilled l.slots l.slot
