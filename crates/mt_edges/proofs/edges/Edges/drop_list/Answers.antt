use Rattle.std.proofs.Common.{◌<◌, refl, sym, ◌∙◌, arith}
use Rattle.mt_edges.proofs.Reading.{all_apart, all_sound}
use Rattle.mt_edges.proofs.Walks.{walk_begins, walk_ends}
use Rattle.mt_edges.proofs.edges.Edges.drop_list.Goals as goal

pub loop-place-init : goal.loop-place-init
loop-place-init c =
    let within : c.args.end < c.self.inside.table.ends = rw (← c.self.view_is) at c.requires.end in
    record {
      head = refl;
      walk = rw c.behind-place.ensures (walk_begins _ _ _ _ _ _ _ _ c.self.invariant within);
      ends = refl;
      spare = refl;
      kept = refl;
      steps = omega arith;
    }

pub invariant_of-self : goal.invariant_of-self
invariant_of-self c =
    let before : c.args.end < c.self.inside.table.ends = rw (← c.self.view_is) at c.requires.end in
    let within : c.args.end < c.loop-place.self-inside.table.ends = omega (arith, c.loop-place.invariant.ends) in
    rw c.clear.ensures.back
    (walk_ends _ _ _ _ _ _ _ _ _ _ c.loop-place.invariant.walk c.loop-place-test.false within c.clear.ensures.lengths c.clear.ensures.first c.clear.ensures.kept).0

pub returns-clause-edges : goal.returns-clause-edges
returns-clause-edges c =
    let before : c.args.end < c.self.inside.table.ends = rw (← c.self.view_is) at c.requires.end in
    let within : c.args.end < c.loop-place.self-inside.table.ends = omega (arith, c.loop-place.invariant.ends) in
    rw (← c.self.view_is)
    (sym (walk_ends _ _ _ _ _ _ _ _ _ _ c.loop-place.invariant.walk c.loop-place-test.false within c.clear.ensures.lengths c.clear.ensures.first c.clear.ensures.kept).1 ∙ c.loop-place.invariant.kept)

pub returns-clause-apart : goal.returns-clause-apart
returns-clause-apart c = all_apart _ c.loop-place.self-inside.table.nodes.items c.loop-place.invariant.walk.shape.sound

pub returns-clause-sound : goal.returns-clause-sound
returns-clause-sound c = all_sound _ c.loop-place.self-inside.table.nodes.items c.loop-place.invariant.walk.shape.sound

pub returns-clause-spare : goal.returns-clause-spare
returns-clause-spare c =
    let before : c.args.end < c.self.inside.table.ends = rw (← c.self.view_is) at c.requires.end in
    let within : c.args.end < c.loop-place.self-inside.table.ends = omega (arith, c.loop-place.invariant.ends) in
    let none = (walk_ends _ _ _ _ _ _ _ _ _ _ c.loop-place.invariant.walk c.loop-place-test.false within c.clear.ensures.lengths c.clear.ensures.first c.clear.ensures.kept).2 in
    rw (← c.self.view_is) (omega (arith, none, c.loop-place.invariant.spare))
