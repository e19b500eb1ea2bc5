use Rattle.std.proofs.Common.{◌+◌, suc, length}
use Rattle.mt_edges.specs.Private.Kept.{ReadsWalk, left_at}
use Rattle.mt_edges.proofs.Reading.{NoneYet}
use Rattle.mt_edges.proofs.table.Table.get.Given as goal

abbrev pub invariant-loop-place : goal.invariant-loop-place
invariant-loop-place l = record {
  reads : ReadsWalk l.self.ends l.self.base l.self.nodes.items l.self.free.items l.self.spare l.self.links.next.items l.self.links.prev.items (1 + l.a) l.place;
  so_far : NoneYet l.self.nodes.items l.self.base l.a l.b reads.done;
}

abbrev pub decreases-loop-place : goal.decreases-loop-place
decreases-loop-place l = left_at l.self.links.next.items (suc (length l.self.links.next.items)) l.place
