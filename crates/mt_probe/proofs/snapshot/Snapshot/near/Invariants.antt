use Rattle.mt_probe.proofs.NearItems.{AreNearBefore}
use Rattle.mt_probe.proofs.snapshot.Snapshot.near.Given as goal

abbrev pub invariant-loop-item : goal.invariant-loop-item
invariant-loop-item l = AreNearBefore l.self l.cover l.item l.items.items
