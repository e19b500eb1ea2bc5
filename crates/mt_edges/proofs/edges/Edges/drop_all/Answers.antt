use Rattle.std.proofs.Common.{sym, arith}
use Rattle.mt_edges.proofs.Nodes.{none_degree, none_touches, outside}
use Rattle.mt_edges.proofs.Reading.{all_apart, all_sound}
use Rattle.mt_edges.proofs.edges.Edges.drop_all.Goals as goal

pub returns-then-end-self-clause-edges : goal.returns-then-end-self-clause-edges
returns-then-end-self-clause-edges c = rw (← c.self.view_is)
    (sym (none_touches c.self.inside.table.nodes.items c.args.end (outside _ _ c.args.end c.self.invariant.shape.sound (omega (arith, c.if-end-self.true)))))

pub returns-then-end-self-clause-apart : goal.returns-then-end-self-clause-apart
returns-then-end-self-clause-apart c = rw (← c.self.view_is) (all_apart _ c.self.inside.table.nodes.items c.self.invariant.shape.sound)

pub returns-then-end-self-clause-sound : goal.returns-then-end-self-clause-sound
returns-then-end-self-clause-sound c = rw (← c.self.view_is) (all_sound _ c.self.inside.table.nodes.items c.self.invariant.shape.sound)

pub returns-then-end-self-clause-spare : goal.returns-then-end-self-clause-spare
returns-then-end-self-clause-spare c =
    let none = none_degree c.self.inside.table.nodes.items c.args.end (outside _ _ c.args.end c.self.invariant.shape.sound (omega (arith, c.if-end-self.true))) in
    rw (← c.self.view_is) (omega (arith, none))
