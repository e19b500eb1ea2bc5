use Rattle.std.proofs.Common.{◌≡◌, ◌<◌, ◌∙◌, ◌⊎◌, Some, ap, inl, inr, option_copied, refl, subst, sym, arith}
use Rattle.mt_base.specs.declared.command.Command.{Command}
use Rattle.mt_base.specs.History.{WasFree}
use Rattle.mt_probe.specs.Hits.{Trial}
use Rattle.mt_write.specs.declared.reply.Reply.TheVariants as replies
use Rattle.mt_lines.specs.Told.{entered_reply}
use Rattle.mt_world.specs.World.{IsCommandAnswered, IsRefused}
use Rattle.mt_picture.specs.Asked.{IsWithinBound}
use Rattle.mt_picture.specs.Story.{IsPrepGivenFor, Story}
use Rattle.mt_base.proofs.Cases.{empty_list}
use Rattle.mt_world.proofs.Accepting.{accept_bounded, accept_free, accept_given, accept_in_time, accepted, accepting, no_probe, not_free, not_some, published_is}
use Rattle.mt_world.proofs.Entering.{sound_after}
use Rattle.mt_world.proofs.Taking.{seen}
use Rattle.mt_world.proofs.Tested.{none_accepted, tested_accept, tested_prep, unpublished}
use Rattle.mt_world.proofs.centre.Centre.accept.Goals as goal

pub returns-then-not-is_empty-clause-answered : goal.returns-then-not-is_empty-clause-answered
returns-then-not-is_empty-clause-answered c =
    let story : Story = c.self.inside.picture in
    let below : c.args.who < 16 = omega (arith, c.requires) in
    let found = sym c.get.ensures.value ∙ ap option_copied c.in-Some.is in
    inl (rw (← c.self.view_is)
    (not_free c.self.inside.areas story c.self.inside.actors.items c.args.who c.index.result.now c.self.invariant below c.index.ensures c.args.number c.in-Some.probe.now found
    c.refused-then-not-is_empty.result (rw c.hits.ensures.told at (sym c.if-not-is_empty.ensures)) (rw (← c.self.view_is) at c.refused-then-not-is_empty.ensures.answered)))

pub publish-requires-clause-bounded : goal.publish-requires-clause-bounded
publish-requires-clause-bounded c =
    let story : Story = c.self.inside.picture in
    let below : c.args.who < 16 = omega (arith, c.requires) in
    let found = sym c.get.ensures.value ∙ ap option_copied c.in-Some.is in
    rw (c.command-command.ensures, c.in-Ok.ensures.prep.command_is)
    (accept_bounded c.self.inside.areas story c.self.inside.actors.items c.args.who c.index.result.now c.self.invariant below c.index.ensures c.args.number c.in-Some.probe.now found
    c.prep.ensures.kept)

pub publish-requires-clause-in_time : goal.publish-requires-clause-in_time
publish-requires-clause-in_time c =
    let story : Story = c.self.inside.picture in
    let below : c.args.who < 16 = omega (arith, c.requires) in
    let found = sym c.get.ensures.value ∙ ap option_copied c.in-Some.is in
    rw (c.command-command.ensures, c.in-Ok.ensures.prep.command_is)
    (accept_in_time c.self.inside.areas story c.self.inside.actors.items c.args.who c.index.result.now c.self.invariant below c.index.ensures c.args.number c.in-Some.probe.now found)

pub publish-requires-clause-prepared : goal.publish-requires-clause-prepared
publish-requires-clause-prepared c =
    let story : Story = c.self.inside.picture in
    let below : c.args.who < 16 = omega (arith, c.requires) in
    let found = sym c.get.ensures.value ∙ ap option_copied c.in-Some.is in
    let same : c.command-command.result.now ≡ accepting c.in-Some.probe.now = c.command-command.ensures ∙ c.in-Ok.ensures.prep.command_is in
    subst (λ (k : Command). IsPrepGivenFor story c.args.who k (Some c.in-Ok.prep)) (sym same)
    (accept_given c.self.inside.areas story c.self.inside.actors.items c.args.who c.index.result.now c.self.invariant below c.index.ensures c.args.number c.in-Some.probe.now found
    c.in-Ok.prep c.in-Ok.ensures.prep)

pub invariant_of-self : goal.invariant_of-self
invariant_of-self c =
    let story : Story = c.self.inside.picture in
    let below : c.args.who < 16 = omega (arith, c.requires) in
    let p : Trial = c.in-Some.probe.now in
    let found = sym c.get.ensures.value ∙ ap option_copied c.in-Some.is in
    let none = empty_list p.hits (rw c.hits.ensures.told at (sym c.if-not-is_empty.ensures)) in
    let command : Command = c.command-command.result.now in
    let same : command ≡ accepting p = c.command-command.ensures ∙ c.in-Ok.ensures.prep.command_is in
    let free = accept_free c.self.inside.areas story c.self.inside.actors.items c.args.who c.index.result.now c.self.invariant below c.index.ensures c.args.number p found
    c.prep.ensures.kept none in
    sound_after story c.publish.new.self c.self.inside.actors.items c.args.who command c.publish.result c.self.invariant
    (subst (λ (k : Command). WasFree story.setup story.history k) (sym same) free) c.publish.ensures.entered c.publish.ensures.unchanged c.publish.ensures.legal

pub returns-clause-answered : goal.returns-clause-answered
returns-clause-answered c =
    let story : Story = c.self.inside.picture in
    let below : c.args.who < 16 = omega (arith, c.requires) in
    let p : Trial = c.in-Some.probe.now in
    let found = sym c.get.ensures.value ∙ ap option_copied c.in-Some.is in
    let none = empty_list p.hits (rw c.hits.ensures.told at (sym c.if-not-is_empty.ensures)) in
    let command : Command = c.command-command.result.now in
    let same : command ≡ accepting p = c.command-command.ensures ∙ c.in-Ok.ensures.prep.command_is in
    let actors = c.self.inside.actors.items in
    let after : Story = c.publish.new.self in
    let changed = published_is c.self.inside.areas story after actors c.args.who command c.publish.result c.publish.ensures.entered c.publish.ensures.refused c.publish.ensures.unchanged in
    rw (← c.self.view_is, c.reply_to_change.ensures.reply) (accepted c.self.inside.areas story actors c.args.who c.index.result.now c.self.invariant below c.index.ensures c.args.number p found
    (seen c.self.inside.areas after actors) (entered_reply c.publish.result) none
    (subst (λ (k : Command). IsCommandAnswered (seen c.self.inside.areas story actors) c.args.who k (entered_reply c.publish.result) (seen c.self.inside.areas after actors)
    ⊎ IsRefused (seen c.self.inside.areas story actors) replies.Memory (entered_reply c.publish.result) (seen c.self.inside.areas after actors)) same changed))

pub returns-in_default-clause-fit : goal.returns-in_default-clause-fit
returns-in_default-clause-fit c = c.refused.ensures.fit

pub returns-then-not-is_empty-clause-fit : goal.returns-then-not-is_empty-clause-fit
returns-then-not-is_empty-clause-fit c = c.refused-then-not-is_empty.ensures.fit

pub returns-clause-fit : goal.returns-clause-fit
returns-clause-fit c = c.reply_to_change.ensures.fit

pub returns-in_default-clause-answered : goal.returns-in_default-clause-answered
returns-in_default-clause-answered c =
    let story : Story = c.self.inside.picture in
    let below : c.args.who < 16 = omega (arith, c.requires) in
    let none = sym c.get.ensures.value ∙ ap option_copied (not_some c.get.result c.in_default.not-Some) in
    inl (rw (← c.self.view_is)
    (no_probe c.self.inside.areas story c.self.inside.actors.items c.args.who c.index.result.now c.self.invariant below c.index.ensures c.args.number none
    c.refused.result (rw (← c.self.view_is) at c.refused.ensures.answered)))

pub returns-in_default-clause-tested : goal.returns-in_default-clause-tested
returns-in_default-clause-tested c =
    let story : Story = c.self.inside.picture in
    let below : c.args.who < 16 = omega (arith, c.requires) in
    let none = sym c.get.ensures.value ∙ ap option_copied (not_some c.get.result c.in_default.not-Some) in
    rw (← c.self.view_is)
    (none_accepted c.self.inside.areas story c.self.inside.actors.items c.args.who c.index.result.now c.self.invariant below c.index.ensures c.args.number none _)

pub returns-then-not-is_empty-clause-tested : goal.returns-then-not-is_empty-clause-tested
returns-then-not-is_empty-clause-tested c =
    let story : Story = c.self.inside.picture in
    let below : c.args.who < 16 = omega (arith, c.requires) in
    let found = sym c.get.ensures.value ∙ ap option_copied c.in-Some.is in
    rw (← c.self.view_is)
    (tested_accept c.self.inside.areas story c.self.inside.actors.items c.args.who c.index.result.now c.self.invariant below c.index.ensures c.args.number c.in-Some.probe.now found _ _
    (unpublished _ _ 0 c.args.who _ _ _ (inl refl)))

pub returns-clause-tested : goal.returns-clause-tested
returns-clause-tested c =
    let story : Story = c.self.inside.picture in
    let below : c.args.who < 16 = omega (arith, c.requires) in
    let p : Trial = c.in-Some.probe.now in
    let found = sym c.get.ensures.value ∙ ap option_copied c.in-Some.is in
    let same : c.command-command.result.now ≡ accepting p = c.command-command.ensures ∙ c.in-Ok.ensures.prep.command_is in
    rw (← c.self.view_is)
    (tested_accept c.self.inside.areas story c.self.inside.actors.items c.args.who c.index.result.now c.self.invariant below c.index.ensures c.args.number p found _ _
    (record {
      between = c.prep.new.tests;
      prep = Some c.in-Ok.prep;
      prepared = inr (tested_prep c.self.inside.areas story c.self.inside.actors.items c.args.who c.index.result.now c.self.invariant below c.index.ensures c.args.number p found _ _
          c.prep.ensures.counted);
      published = subst (λ (k : Command). IsWithinBound story c.args.who k (Some c.in-Ok.prep) c.prep.new.tests c.publish.new.tests) same c.publish.ensures.counted;
    }))

pub returns-in_default-prep-clause-tested : goal.returns-in_default-prep-clause-tested
returns-in_default-prep-clause-tested c =
    let story : Story = c.self.inside.picture in
    let below : c.args.who < 16 = omega (arith, c.requires) in
    let p : Trial = c.in-Some.probe.now in
    let found = sym c.get.ensures.value ∙ ap option_copied c.in-Some.is in
    rw (← c.self.view_is)
    (tested_accept c.self.inside.areas story c.self.inside.actors.items c.args.who c.index.result.now c.self.invariant below c.index.ensures c.args.number p found _ _
    (unpublished _ _ 0 c.args.who _ _ _
    (inr (tested_prep c.self.inside.areas story c.self.inside.actors.items c.args.who c.index.result.now c.self.invariant below c.index.ensures c.args.number p found _ _
    c.prep.ensures.counted))))
