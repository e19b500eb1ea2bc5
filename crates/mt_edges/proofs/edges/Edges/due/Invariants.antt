use Rattle.mt_edges.proofs.Reading.{DueBelow}
use Rattle.mt_edges.proofs.edges.Edges.due.Given as goal

abbrev pub invariant-loop-bucket : goal.invariant-loop-bucket
invariant-loop-bucket l = DueBelow l.self-inside.table.nodes.items l.from l.to l.bucket l.found.items
