use Rattle.std.proofs.Common.{refl}
use Rattle.mt_board.proofs.SeatLemmas.{read_goes_on}
use Rattle.mt_session.proofs.Stays.{are_past_on}
use Rattle.mt_session.proofs.serving.Serving.read.Goals as goal

pub returns-clause-read : goal.returns-clause-read
returns-clause-read g c = rw (← c.self.view_is) (g.B.Board.seat c.read.new.self, c.read.ensures.read, refl)

pub returns-clause-on : goal.returns-clause-on
returns-clause-on g c =
    let on = read_goes_on _ _ _ _ c.read.ensures.read in
    rw (← c.self.view_is) (record { same = on.0; begins = on.1; home = c.read.ensures.home })

pub invariant_of-self : goal.invariant_of-self
invariant_of-self g c = are_past_on g.B.Probe.Probed.told g.B.Probe.Probed.fixed g.B.Probe.Probed.state _ _ c.self.inside.book.last (read_goes_on _ _ _ _ c.read.ensures.read) c.self.invariant

pub returns-clause-short : goal.returns-clause-short
returns-clause-short g c = c.read.ensures.short
