use Rattle.std.proofs.Common.{[], refl}
use Rattle.mt_world.specs.World.{world_of}
use Rattle.mt_world.proofs.WorldLemmas.{ok_same, shown_first, sound_first}
use Rattle.mt_world.proofs.centre.Centre.make.Goals as goal

pub invariant_of-result : goal.invariant_of-result
invariant_of-result c =
    let story = c.args.picture in
    sound_first story.setup story.history c.in_ok-opening.opening c.in_ok-actors.actors.items c.requires
    (rw c.in_ok-snapshot.ensures.setup at c.in_ok-opening.ensures.setup) c.in_ok-opening.ensures.version c.in_ok-opening.ensures.state
    c.in_ok-actors.ensures.0 c.in_ok-actors.ensures.1

pub returns : goal.returns
returns c =
    let story = c.args.picture in
    let actors = shown_first c.in_ok-opening.opening c.in_ok-actors.actors.items 16 c.in_ok-opening.ensures.version c.in_ok-actors.ensures.0 c.in_ok-actors.ensures.1 in
    λ i. world_of story (ok_same _ _ c.in_ok-areas.areas [] c.in_ok-areas.ensures refl refl i) (actors i)
