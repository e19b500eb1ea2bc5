use Rattle.std.proofs.Common.{ap}
use Rattle.mt_base.specs.Tables.{Setup}
use Rattle.mt_picture.specs.Story.{Story}
use Rattle.mt_world.proofs.Entering.{asked_free, on_err, same_setup, sound_after}
use Rattle.mt_world.proofs.Taking.{seen}
use Rattle.mt_world.proofs.centre.Centre.publish.Goals as goal

pub invariant_of-self : goal.invariant_of-self
invariant_of-self c =
    let story : Story = c.self.inside.picture in
    sound_after story c.publish.new.self c.self.inside.actors.items c.args.who c.args.command.now c.publish.result c.self.invariant
    (asked_free story.setup story.history c.args.command.now c.requires.asked) c.publish.ensures.entered c.publish.ensures.unchanged c.publish.ensures.legal

pub returns-clause-refused : goal.returns-clause-refused
returns-clause-refused c = rw (← c.self.view_is) c.publish.ensures.refused

pub returns-clause-entered : goal.returns-clause-entered
returns-clause-entered c = rw (← c.self.view_is) c.publish.ensures.entered

pub returns-clause-unchanged : goal.returns-clause-unchanged
returns-clause-unchanged c =
    rw (← c.self.view_is) (on_err c.publish.result _ _ (λ is. ap (λ (s : Story). seen c.self.inside.areas s c.self.inside.actors.items) is) c.publish.ensures.unchanged)

pub returns-clause-kept : goal.returns-clause-kept
returns-clause-kept c =
    let story : Story = c.self.inside.picture in
    let after : Story = c.publish.new.self in
    rw (← c.self.view_is) (ap (λ (s : Setup). seen c.self.inside.areas (record { setup = s; history = after.history }) c.self.inside.actors.items)
    (same_setup story after c.args.who c.args.command.now c.publish.result c.publish.ensures.entered c.publish.ensures.unchanged))

pub returns-clause-tested : goal.returns-clause-tested
returns-clause-tested c = rw (← c.self.view_is) (rw c.as_ref.ensures.value at c.publish.ensures.counted)
