use Rattle.std.proofs.Common.{◌<◌, ◌∙◌, ap, get_or, length, map, slice_set, sym, arith}
use Rattle.mt_board.specs.Probing.{ToldProbe}
use Rattle.mt_board.specs.Book.{Book, with_all}
use Rattle.mt_board.proofs.Books.{all_more, told_all}
use Rattle.mt_picture.specs.Story.{Story}
use Rattle.mt_probe.specs.Hits.{told_of}
use Rattle.mt_world.specs.Private.Sound.{IsKeptOf, actor_shown}
use Rattle.mt_world.specs.World.{new_actor, world_of}
use Rattle.mt_world.specs.World as world
use Rattle.mt_world.proofs.WorldLemmas.{actor_is, actor_sound, book_view, sound_set}
use Rattle.mt_world.proofs.centre.Centre.keep_all.Goals as goal

pub invariant_of-self : goal.invariant_of-self
invariant_of-self c =
    let story : Story = c.self.inside.picture in
    let below : c.args.who < 16 = omega (arith, c.requires.who) in
    let a = c.index_mut.result.now in
    let sound = actor_sound story c.self.inside.actors.items c.args.who a c.self.invariant below c.index_mut.ensures.value in
    let kept = rw (← c.self.view_is) at c.requires.kept in
    rw c.put_all.ensures (sound_set story c.self.inside.actors.items c.args.who _ c.self.invariant
    (record { taken = sound.taken; kept = all_more (IsKeptOf story.setup story.history) a.book c.args.probes.items sound.kept kept }))

pub returns : goal.returns
returns c =
    let items = c.self.inside.actors.items in
    let a = c.index_mut.result.now in
    let within : c.args.who < length items = rw c.self.invariant.sixteen (omega (arith, c.requires.who)) in
    let actor = actor_is items c.args.who a within c.index_mut.ensures.value in
    let book = told_all told_of a.book c.args.probes.items ∙ ap (λ (b : world.Actor). with_all b.book (map told_of c.args.probes.items)) (sym actor) in
    rw (← c.self.view_is, c.put_all.ensures) (λ i. world_of c.self.inside.picture c.self.inside.areas
    ((book_view items c.args.who a (with_all a.book c.args.probes.items) within c.index_mut.ensures.value
    ∙ ap (λ (b : Book ToldProbe). slice_set (map actor_shown items) c.args.who (record (get_or (map actor_shown items) c.args.who new_actor) { book = b })) book) i))
