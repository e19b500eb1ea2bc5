use Rattle.std.proofs.Common.{◌≡◌, ◌+◌, ◌*◌, ◌≤◌}
use Rattle.mt_edges.specs.Pairs.{degree, without_end}
use Rattle.mt_edges.specs.Private.Kept.{Walk, standing_pairs}
use Rattle.mt_edges.proofs.edges.Edges.drop_list.Given as goal

abbrev pub invariant-loop-place : goal.invariant-loop-place
invariant-loop-place l = record {
  head : l.head ≡ 1 + l.end;
  walk : Walk l.self-inside.table.ends l.self-inside.table.base l.self-inside.table.nodes.items l.self-inside.table.free.items l.self-inside.table.spare
      l.self-inside.table.links.next.items l.self-inside.table.links.prev.items (1 + l.end) l.place;
  ends : l.self-inside.table.ends ≡ l.initial.self-inside.table.ends;
  spare : l.self-inside.table.spare + degree l.end (standing_pairs l.self-inside.table.nodes.items) ≡ l.initial.self-inside.table.spare + degree l.end (standing_pairs l.initial.self-inside.table.nodes.items);
  kept : without_end l.end (standing_pairs l.self-inside.table.nodes.items) ≡ without_end l.end (standing_pairs l.initial.self-inside.table.nodes.items);
  steps : l.steps + 6 * degree l.end (standing_pairs l.self-inside.table.nodes.items) ≤ l.initial.steps + 6 * degree l.end (standing_pairs l.initial.self-inside.table.nodes.items);
}

abbrev pub decreases-loop-place : goal.decreases-loop-place
decreases-loop-place l = degree l.end (standing_pairs l.self-inside.table.nodes.items)
