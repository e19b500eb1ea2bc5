use Rattle.std.proofs.Common.{◌<◌, ◌∙◌, ap, get_or, length, map, slice_set, sym, arith}
use Rattle.mt_board.specs.Probing.{ToldProbe}
use Rattle.mt_board.specs.Book.{Book, with_probe}
use Rattle.mt_board.proofs.Books.{all_push, told_push}
use Rattle.mt_picture.specs.Story.{Story}
use Rattle.mt_base.specs.Tally.{raised}
use Rattle.mt_probe.specs.Hits.{Trial, told_of}
use Rattle.mt_world.specs.Private.Sound.{IsKeptOf, actor_shown}
use Rattle.mt_world.specs.World.{new_actor, world_of}
use Rattle.mt_world.specs.World as world
use Rattle.mt_world.proofs.WorldLemmas.{actor_is, actor_sound, book_view, sound_set}
use Rattle.mt_world.proofs.centre.Centre.keep.Goals as goal

pub invariant_of-self : goal.invariant_of-self
invariant_of-self c =
    let story : Story = c.self.inside.picture in
    let below : c.args.who < 16 = omega (arith, c.requires.who) in
    let a = c.index_mut.result.now in
    let sound = actor_sound story c.self.inside.actors.items c.args.who a c.self.invariant below c.index_mut.ensures.value in
    let kept = rw (← c.self.view_is) at c.requires.kept in
    rw c.put.ensures.kept (sound_set story c.self.inside.actors.items c.args.who _ c.self.invariant
    (record { taken = sound.taken; kept = all_push (IsKeptOf story.setup story.history) a.book c.args.probe sound.kept kept }))

pub returns-clause-kept : goal.returns-clause-kept
returns-clause-kept c =
    let items = c.self.inside.actors.items in
    let a = c.index_mut.result.now in
    let within : c.args.who < length items = rw c.self.invariant.sixteen (omega (arith, c.requires.who)) in
    let actor = actor_is items c.args.who a within c.index_mut.ensures.value in
    let book = told_push told_of a.book c.args.probe ∙ ap (λ (b : world.Actor). with_probe b.book (told_of c.args.probe)) (sym actor) in
    rw (← c.self.view_is, c.put.ensures.kept) (λ i. world_of c.self.inside.picture c.self.inside.areas
    ((book_view items c.args.who a (with_probe a.book c.args.probe) within c.index_mut.ensures.value
    ∙ ap (λ (b : Book ToldProbe). slice_set (map actor_shown items) c.args.who (record (get_or (map actor_shown items) c.args.who new_actor) { book = b })) book) i))

pub returns-clause-number : goal.returns-clause-number
returns-clause-number c =
    let items = c.self.inside.actors.items in
    let within : c.args.who < length items = rw c.self.invariant.sixteen (omega (arith, c.requires.who)) in
    let actor = actor_is items c.args.who c.index_mut.result.now within c.index_mut.ensures.value in
    rw (← c.self.view_is) (c.put.ensures.number ∙ ap (λ (b : Book Trial). b.count) c.put.ensures.kept ∙ ap (λ (b : world.Actor). raised b.book.count) (sym actor))
