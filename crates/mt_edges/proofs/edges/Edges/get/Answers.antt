use Rattle.std.proofs.Common.{arith}
use Rattle.mt_edges.proofs.Reading.{all_apart, all_sound, out_of_range}
use Rattle.mt_edges.proofs.edges.Edges.get.Goals as goal

pub returns-then-a-self-clause-none : goal.returns-then-a-self-clause-none
returns-then-a-self-clause-none c = rw (← c.self.view_is) (out_of_range c.self.inside.table.ends c.self.inside.table.nodes.items c.args.a c.args.b c.self.invariant.shape.sound (omega arith))

pub returns-then-a-self-clause-apart : goal.returns-then-a-self-clause-apart
returns-then-a-self-clause-apart c = rw (← c.self.view_is) (all_apart c.self.inside.table.ends c.self.inside.table.nodes.items c.self.invariant.shape.sound)

pub returns-then-a-self-clause-sound : goal.returns-then-a-self-clause-sound
returns-then-a-self-clause-sound c = rw (← c.self.view_is) (all_sound c.self.inside.table.ends c.self.inside.table.nodes.items c.self.invariant.shape.sound)

pub returns-clause-some : goal.returns-clause-some
returns-clause-some c = rw (← c.self.view_is) c.get.ensures.some

pub returns-clause-apart : goal.returns-clause-apart
returns-clause-apart c = rw (← c.self.view_is) (all_apart c.self.inside.table.ends c.self.inside.table.nodes.items c.self.invariant.shape.sound)

pub returns-clause-sound : goal.returns-clause-sound
returns-clause-sound c = rw (← c.self.view_is) (all_sound c.self.inside.table.ends c.self.inside.table.nodes.items c.self.invariant.shape.sound)
