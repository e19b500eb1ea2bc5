use Rattle.std.proofs.Common.{refl}
use Rattle.mt_board.proofs.Books.{told_all}
use Rattle.mt_session.proofs.Books.{past_all}
use Rattle.mt_session.proofs.serving.Serving.keep_all.Goals as goal

pub invariant_of-self : goal.invariant_of-self
invariant_of-self g c =
    rw c.put_all.ensures (past_all g.B.Probe.Probed.told g.B.Probe.Probed.fixed g.B.Probe.Probed.state (g.B.Board.seat c.self.inside.board) c.self.inside.book
    c.args.probes.items c.self.invariant (rw (← c.self.view_is) at c.requires))

pub returns-clause-kept : goal.returns-clause-kept
returns-clause-kept g c = rw (← c.self.view_is, c.put_all.ensures, told_all g.B.Probe.Probed.told c.self.inside.book c.args.probes.items) refl
