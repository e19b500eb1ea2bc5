use Rattle.std.proofs.Common.{◌∙◌, ap, inr, subst}
use Rattle.mt_base.specs.Bounds.{AreWithinBounds}
use Rattle.mt_base.specs.Tables.{Setup}
use Rattle.mt_picture.specs.Story.{Story}
use Rattle.mt_picture.proofs.Given.{denied_now, given_now}
use Rattle.mt_world.proofs.centre.Centre.prepared.Goals as goal

pub returns-clause-refused : goal.returns-clause-refused
returns-clause-refused c =
    let story : Story = c.self.inside.picture in
    let rules : AreWithinBounds story.setup.rules =
    subst AreWithinBounds (c.rules-rules.ensures.rules ∙ ap (λ (s : Setup). s.rules) c.in_ok-now.ensures.setup) c.rules-rules.ensures.kept in
    rw (← c.self.view_is) (denied_now story c.in_ok-now.now c.args.who c.args.command.now c.in-Err.no (c.makes_strand.ensures.0 c.if-not-makes_strand.false)
    c.in_ok-now.ensures.setup c.in_ok-now.ensures.state rules c.in-Err.ensures.refused)

pub returns-in-Ok-clause-given : goal.returns-in-Ok-clause-given
returns-in-Ok-clause-given c =
    let story : Story = c.self.inside.picture in
    rw (← c.self.view_is) (given_now story c.in_ok-now.now c.args.who c.args.command.now c.in-Ok.prep (c.makes_strand.ensures.0 c.if-not-makes_strand.false)
    c.in_ok-now.ensures.setup c.in_ok-now.ensures.state c.in-Ok.ensures.prep)

pub returns-in-Ok-clause-tested : goal.returns-in-Ok-clause-tested
returns-in-Ok-clause-tested c = rw (← c.self.view_is) (inr (record {
  shot = c.in_ok-now.now;
  setup_is = c.in_ok-now.ensures.setup;
  state_is = c.in_ok-now.ensures.state;
  prepared = c.prepare.ensures.counted;
}))

pub returns-clause-tested : goal.returns-clause-tested
returns-clause-tested c = rw (← c.self.view_is) (inr (record {
  shot = c.in_ok-now.now;
  setup_is = c.in_ok-now.ensures.setup;
  state_is = c.in_ok-now.ensures.state;
  prepared = c.prepare.ensures.counted;
}))
