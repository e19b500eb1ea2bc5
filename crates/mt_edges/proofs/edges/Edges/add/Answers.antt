use Rattle.std.proofs.lemmas.List.Elements.{All-contains}
use Rattle.mt_edges.specs.Pairs.{HaveSameEnds}
use Rattle.mt_edges.proofs.Reading.{all_apart, all_sound}
use Rattle.mt_edges.proofs.Nodes.{stands}
use Rattle.mt_edges.proofs.edges.Edges.add.Goals as goal

pub put-requires-clause-new : goal.put-requires-clause-new
put-requires-clause-new c =
    let new = rw (← c.self.view_is) at c.requires.new in
    λ i f here. All-contains (λ e. ¬ HaveSameEnds e c.args.edge) _ f new (stands c.self.inside.table.nodes.items i f here)

pub returns-clause-apart : goal.returns-clause-apart
returns-clause-apart c = all_apart _ c.put.new.self.nodes.items c.put.ensures.kept.shape.sound

pub returns-clause-sound : goal.returns-clause-sound
returns-clause-sound c = all_sound _ c.put.new.self.nodes.items c.put.ensures.kept.shape.sound
