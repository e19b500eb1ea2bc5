use Rattle.std.proofs.Common.{◌≡◌, ◌+◌, ◌-◌}
use Rattle.mt_edges.specs.Private.Kept.{HasRoom, IsTable, standing_pairs}
use Rattle.mt_edges.proofs.table.Table.grow.Given as goal

abbrev pub invariant-loop : goal.invariant-loop
invariant-loop l = record {
  kept : IsTable l.self;
  room : HasRoom l.self (l.count - l.counter);
  ends : l.self.ends ≡ l.fn.self.ends;
  edges : standing_pairs l.self.nodes.items ≡ standing_pairs l.fn.self.nodes.items;
  spare : l.self.spare ≡ l.fn.self.spare + l.counter;
}
