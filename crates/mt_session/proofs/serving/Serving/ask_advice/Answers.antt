use Rattle.std.proofs.Common.{map, refl}
use Rattle.mt_session.proofs.Stays.{advised_on, are_past_on}
use Rattle.mt_session.proofs.serving.Serving.ask_advice.Goals as goal

pub returns-clause-on : goal.returns-clause-on
returns-clause-on g c =
    let on = advised_on (λ a. a.eff) (λ a. a.version) (λ a. map g.B.Probe.Probed.told a.probes.items) _ _ c.args.call c.advise.result
    c.advise.ensures.advised c.advise.ensures.denied in
    rw (← c.self.view_is) (record { same = on.0; begins = on.1; home = c.advise.ensures.home })

pub invariant_of-self : goal.invariant_of-self
invariant_of-self g c =
    are_past_on g.B.Probe.Probed.told g.B.Probe.Probed.fixed g.B.Probe.Probed.state _ _ c.self.inside.book.last
    (advised_on (λ a. a.eff) (λ a. a.version) (λ a. map g.B.Probe.Probed.told a.probes.items) _ _ c.args.call c.advise.result c.advise.ensures.advised c.advise.ensures.denied)
    c.self.invariant

pub returns-clause-advised : goal.returns-clause-advised
returns-clause-advised g c = rw (← c.self.view_is) c.advise.ensures.advised

pub returns-clause-past : goal.returns-clause-past
returns-clause-past g c = c.advise.ensures.past

pub returns-clause-denied : goal.returns-clause-denied
returns-clause-denied g c = rw (← c.self.view_is) c.advise.ensures.denied

pub returns-clause-kept : goal.returns-clause-kept
returns-clause-kept g c = rw (← c.self.view_is) refl
