use Rattle.mt_probe.proofs.Tried.{unrefused}
use Rattle.mt_probe.proofs.probe.Probe.prep.Goals as goal

pub returns-in-Ok-clause-counted : goal.returns-in-Ok-clause-counted
returns-in-Ok-clause-counted c = rw (← c.self.view_is) c.prepare.ensures.counted

pub returns-in-Err-Memory-clause-counted : goal.returns-in-Err-Memory-clause-counted
returns-in-Err-Memory-clause-counted c = rw (← c.self.view_is) c.prepare.ensures.counted

pub unreachable-requires : goal.unreachable-requires
unreachable-requires c =
    let refused = rw c.in-Err-Refused.field-0-is at c.in-Err-Refused.ensures.refused in
    unrefused c.self.inside.snapshot c.self.inside.call c.self.inside.clearance c.self.inside.eff c.self.inside.found c.in-Err-Refused.field-0-0
    c.self.invariant.rules c.self.invariant.follows refused.0
