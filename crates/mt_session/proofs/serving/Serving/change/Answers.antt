use Rattle.std.proofs.Common.{refl}
use Rattle.mt_board.proofs.SeatLemmas.{change_goes_on}
use Rattle.mt_session.proofs.Stays.{are_past_on}
use Rattle.mt_session.proofs.serving.Serving.change.Goals as goal

pub returns-clause-changed : goal.returns-clause-changed
returns-clause-changed g c = rw (← c.self.view_is) (g.B.Board.seat c.change.new.self, c.change.ensures.changed, refl)

pub returns-clause-on : goal.returns-clause-on
returns-clause-on g c =
    let on = change_goes_on _ _ _ _ c.change.ensures.changed in
    rw (← c.self.view_is) (record { same = on.0; begins = on.1; home = c.change.ensures.home })

pub invariant_of-self : goal.invariant_of-self
invariant_of-self g c = are_past_on g.B.Probe.Probed.told g.B.Probe.Probed.fixed g.B.Probe.Probed.state _ _ c.self.inside.book.last (change_goes_on _ _ _ _ c.change.ensures.changed) c.self.invariant
