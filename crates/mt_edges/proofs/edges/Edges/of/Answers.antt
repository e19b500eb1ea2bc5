use Rattle.std.proofs.Common.{◌<◌, arith}
use Rattle.mt_edges.proofs.Nodes.{outside}
use Rattle.mt_edges.proofs.Reading.{none_each, of_each}
use Rattle.mt_edges.proofs.edges.Edges.of.Goals as goal

pub returns-then-end-self : goal.returns-then-end-self
returns-then-end-self c = rw (← c.self.view_is, c.new-found.ensures.items)
    (none_each c.self.inside.table.nodes.items c.args.end (outside _ _ c.args.end c.self.invariant.shape.sound (omega (arith, c.if-end-self.true))))

pub returns : goal.returns
returns c =
    let within : c.args.end < c.self.inside.table.ends = omega (arith, c.if-end-self.false) in
    let g = rw c.new-found.ensures.items at c.in_ok-gather.ensures in
    rw (← c.self.view_is) (of_each c.self.inside.table.ends c.self.inside.table.nodes.items c.args.end _ c.self.invariant.shape.sound within g)
