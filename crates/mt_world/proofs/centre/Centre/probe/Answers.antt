use Rattle.std.proofs.Common.{◌∙◌, inl}
use Rattle.mt_world.proofs.Tested.{refused_enough}
use Rattle.mt_world.proofs.Taking.{brief_tried, probed_is, unprobed_is}
use Rattle.mt_world.proofs.centre.Centre.probe.Goals as goal

pub returns-in-Ok-copy-clause-answered : goal.returns-in-Ok-copy-clause-answered
returns-in-Ok-copy-clause-answered c =
    inl (probed_is c.args.self.now c.keep-number.new.self c.args.who c.args.call c.args.clearance c.args.eff c.in-Ok.probe
    c.in-Ok-copy.conflicts _ _ _ c.in-Ok.ensures.probe (c.in-Ok-copy.ensures ∙ c.found.ensures.found) c.eff-eff.ensures c.version-version.ensures
    c.keep-number.ensures.number c.keep-number.ensures.kept)

pub returns-in-Ok-copy-clause-fit : goal.returns-in-Ok-copy-clause-fit
returns-in-Ok-copy-clause-fit c = rw (c.in-Ok-copy.ensures, c.found.ensures.found) (brief_tried c.in-Ok.probe c.found.ensures.kept)

pub returns-in-Err-clause-answered : goal.returns-in-Err-clause-answered
returns-in-Err-clause-answered c =
    rw c.refused.ensures.reply (unprobed_is c.args.self.now c.args.who c.args.call c.args.clearance c.args.eff c.in-Err.no c.in-Err.ensures.refused)

pub returns-in-Ok-copy-clause-tested : goal.returns-in-Ok-copy-clause-tested
returns-in-Ok-copy-clause-tested c = c.try_clearance.ensures.tested

pub returns-in-Err-clause-tested : goal.returns-in-Err-clause-tested
returns-in-Err-clause-tested c = c.try_clearance.ensures.tested

pub returns-in-Ok-copy-clause-enough : goal.returns-in-Ok-copy-clause-enough
returns-in-Ok-copy-clause-enough c = rw (c.in-Ok-copy.ensures, c.found.ensures.found) c.in-Ok.ensures.enough

pub returns-in-Err-clause-enough : goal.returns-in-Err-clause-enough
returns-in-Err-clause-enough c = rw c.refused.ensures.reply (refused_enough c.in-Err.no _ _)
