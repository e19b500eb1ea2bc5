use Rattle.std.proofs.Common.{◌≡◌, ◌++◌, take}
use Rattle.std.specs.List.{filter}
use Rattle.mt_kept.specs.Private.Stale.{comes_due}
use Rattle.mt_kept.proofs.lists.add_due.Given as goal

abbrev pub invariant-loop-edge : goal.invariant-loop-edge
invariant-loop-edge l = l.edges.items ≡ l.initial.edges.items ++ filter (comes_due l.moment l.now l.stale) (take l.edge-index l.others)
