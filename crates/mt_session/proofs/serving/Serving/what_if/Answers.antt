use Rattle.std.proofs.Common.{refl}
use Rattle.mt_session.proofs.Stays.{are_past_on, probed_on}
use Rattle.mt_session.proofs.serving.Serving.what_if.Goals as goal

pub returns-clause-on : goal.returns-clause-on
returns-clause-on g c =
    let on = probed_on g.B.Probe.Probed.told _ _ c.args.call c.args.clearance c.args.eff c.what_if.result c.what_if.ensures.probed c.what_if.ensures.denied in
    rw (← c.self.view_is) (record { same = on.0; begins = on.1; home = c.what_if.ensures.home })

pub invariant_of-self : goal.invariant_of-self
invariant_of-self g c =
    are_past_on g.B.Probe.Probed.told g.B.Probe.Probed.fixed g.B.Probe.Probed.state _ _ c.self.inside.book.last
    (probed_on g.B.Probe.Probed.told _ _ c.args.call c.args.clearance c.args.eff c.what_if.result c.what_if.ensures.probed c.what_if.ensures.denied) c.self.invariant

pub returns-clause-probed : goal.returns-clause-probed
returns-clause-probed g c = rw (← c.self.view_is) c.what_if.ensures.probed

pub returns-clause-past : goal.returns-clause-past
returns-clause-past g c = c.what_if.ensures.past

pub returns-clause-denied : goal.returns-clause-denied
returns-clause-denied g c = rw (← c.self.view_is) c.what_if.ensures.denied

pub returns-clause-kept : goal.returns-clause-kept
returns-clause-kept g c = rw (← c.self.view_is) refl
