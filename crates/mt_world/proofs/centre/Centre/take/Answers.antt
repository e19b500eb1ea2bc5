use Rattle.std.proofs.Common.{◌<◌, ◌≡◌, ◌∙◌, ap, get_or, inl, length, map, slice_set, ℕ, arith}
use Rattle.mt_base.specs.Picture.{State}
use Rattle.mt_base.proofs.HistoryLemmas.{version_is}
use Rattle.mt_picture.specs.Story.{Story}
use Rattle.mt_write.specs.declared.reply.Reply.TheVariants.{Taken}
use Rattle.mt_world.specs.Private.Sound.{actor_shown}
use Rattle.mt_world.specs.World.{new_actor, world_of}
use Rattle.mt_world.proofs.WorldLemmas.{actor_sound, now_taken, sound_set, taken_view}
use Rattle.mt_world.proofs.centre.Centre.take.Goals as goal

pub invariant_of-self : goal.invariant_of-self
invariant_of-self c =
    let story : Story = c.self.inside.picture in
    let below : c.args.who < 16 = omega (arith, c.requires) in
    let a = c.index_mut.result.now in
    let sound = actor_sound story c.self.inside.actors.items c.args.who a c.self.invariant below c.index_mut.ensures.value in
    sound_set story c.self.inside.actors.items c.args.who _ c.self.invariant
    (record { taken = now_taken story.setup story.history c.in-Ok.taken c.in-Ok.ensures.setup c.in-Ok.ensures.state; kept = sound.kept })

pub returns-clause-answered : goal.returns-clause-answered
returns-clause-answered c =
    let story : Story = c.self.inside.picture in
    let items = c.self.inside.actors.items in
    let within : c.args.who < length items = rw c.self.invariant.sixteen (omega (arith, c.requires)) in
    let counted : c.in-Ok.taken.version ≡ length story.history =
    ap (λ (s : State). s.version) c.in-Ok.ensures.state ∙ version_is story.setup story.history in
    inl (record {
      reply_is = rw (← c.self.view_is) (ap Taken c.version.ensures);
      next_is = rw (← c.self.view_is) (λ i. world_of story c.self.inside.areas
          ((taken_view items c.args.who c.index_mut.result.now c.in-Ok.taken within c.index_mut.ensures.value
          ∙ ap (λ (n : ℕ). slice_set (map actor_shown items) c.args.who (record (get_or (map actor_shown items) c.args.who new_actor) { taken = n })) counted) i));
    })
