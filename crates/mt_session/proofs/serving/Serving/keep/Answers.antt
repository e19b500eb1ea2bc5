use Rattle.std.proofs.Common.{[], ◌∷◌, refl}
use Rattle.std.proofs.lemmas.List.Elements.{All-cons, All-nil}
use Rattle.mt_board.specs.Probing.{IsPast}
use Rattle.mt_board.proofs.Books.{told_push}
use Rattle.mt_session.proofs.Books.{past_all}
use Rattle.mt_session.proofs.serving.Serving.keep.Goals as goal

pub returns-clause-kept : goal.returns-clause-kept
returns-clause-kept g c = rw (← c.self.view_is, c.put.ensures.kept, told_push g.B.Probe.Probed.told c.self.inside.book c.args.probe) refl

-- a value more is as past as the others
pub invariant_of-self : goal.invariant_of-self
invariant_of-self g c =
    let seat = g.B.Board.seat c.self.inside.board in
    let is_past = λ (p : g.row.B-Probe.Denot). IsPast seat (g.B.Probe.Probed.fixed p) (g.B.Probe.Probed.state p) (g.B.Probe.Probed.told p).version in
    rw c.put.ensures.kept (past_all g.B.Probe.Probed.told g.B.Probe.Probed.fixed g.B.Probe.Probed.state seat c.self.inside.book (c.args.probe ∷ []) c.self.invariant
    (All-cons is_past c.args.probe [] (rw (← c.self.view_is) at c.requires) (All-nil is_past)))

pub returns-clause-number : goal.returns-clause-number
returns-clause-number g c = rw (← c.self.view_is, c.put.ensures.number, c.put.ensures.kept) refl
