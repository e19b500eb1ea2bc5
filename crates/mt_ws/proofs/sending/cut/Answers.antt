use Rattle.mt_ws.proofs.Cutting.{cuts_at, cuts_none}
use Rattle.mt_ws.proofs.sending.cut.Goals as goal

pub returns-in-Some : goal.returns-in-Some
returns-in-Some c = cuts_at c.args.piece.now c.in-Some.place c.in-Some.ensures.0 c.in-Some.ensures.1 c.in-Some.ensures.2

pub returns-in-None : goal.returns-in-None
returns-in-None c = cuts_none c.args.piece.now c.in-None.ensures
