use Rattle.std.proofs.Common.{inl, sym, ap, ◌∙◌, option_copied}
use Rattle.mt_board.proofs.SeatLemmas.{change_goes_on}
use Rattle.mt_session.proofs.Books.{accepted, no_such, not_free, past_at}
use Rattle.mt_session.proofs.Stays.{are_past_on}
use Rattle.mt_session.proofs.serving.Serving.accept.Goals as goal

pub returns-in_default-clause-accepted : goal.returns-in_default-clause-accepted
returns-in_default-clause-accepted g c =
    no_such g.B.Probe.Probed.told _ _ c.self.inside.book c.args.number _ (ap (λ h. h.session.book) c.self.view_is)
    (sym c.get.ensures.value ∙ ap option_copied c.in_default.is) c.refuse_number.ensures.refused

pub returns-then-not-is_empty-clause-accepted : goal.returns-then-not-is_empty-clause-accepted
returns-then-not-is_empty-clause-accepted g c =
    not_free g.B.Probe.Probed.told _ _ c.self.inside.book c.args.number _ (ap (λ h. h.session.book) c.self.view_is)
    c.in-Some.probe.now (sym c.get.ensures.value ∙ ap option_copied c.in-Some.is)
    (rw c.hits.ensures.told at (sym c.if-not-is_empty.ensures)) c.refuse_number-then-not-is_empty.ensures.refused

pub accept-requires-clause-past : goal.accept-requires-clause-past
accept-requires-clause-past g c =
    past_at g.B.Probe.Probed.told g.B.Probe.Probed.fixed g.B.Probe.Probed.state _ c.self.inside.book c.args.number c.in-Some.probe.now c.self.invariant
    (sym c.get.ensures.value ∙ ap option_copied c.in-Some.is)

pub invariant_of-self : goal.invariant_of-self
invariant_of-self g c =
    are_past_on g.B.Probe.Probed.told g.B.Probe.Probed.fixed g.B.Probe.Probed.state _ _ c.self.inside.book.last
    (change_goes_on _ _ _ _ c.accept.ensures.changed) c.self.invariant

pub returns-clause-accepted : goal.returns-clause-accepted
returns-clause-accepted g c = rw (← c.self.view_is) (inl (accepted g.B.Probe.Probed.told c.self.inside.role c.self.inside.book _ _ c.args.number _ _ _ (sym c.in-Some.ensures.value)
    (rw (← c.hits.ensures.told) (sym c.if-not-is_empty.ensures)) c.accept.ensures.changed c.reply_to_change.ensures.reply))

pub returns-clause-on : goal.returns-clause-on
returns-clause-on g c =
    let on = change_goes_on _ _ _ _ c.accept.ensures.changed in
    rw (← c.self.view_is) (record { same = on.0; begins = on.1; home = c.accept.ensures.home })

pub returns-in_default-clause-on : goal.returns-in_default-clause-on
returns-in_default-clause-on g c = c.refuse_number.ensures.on

pub returns-in_default-clause-fit : goal.returns-in_default-clause-fit
returns-in_default-clause-fit g c = c.refuse_number.ensures.fit

pub returns-then-not-is_empty-clause-on : goal.returns-then-not-is_empty-clause-on
returns-then-not-is_empty-clause-on g c = c.refuse_number-then-not-is_empty.ensures.on

pub returns-then-not-is_empty-clause-fit : goal.returns-then-not-is_empty-clause-fit
returns-then-not-is_empty-clause-fit g c = c.refuse_number-then-not-is_empty.ensures.fit

pub returns-clause-fit : goal.returns-clause-fit
returns-clause-fit g c = c.reply_to_change.ensures.fit
