use Rattle.std.proofs.lemmas.Result.{err_from_is_err_and}
use Rattle.mt_lines.proofs.Leaving.{failed_behind, written_behind}
use Rattle.mt_lines.proofs.outgoing.Outgoing.give.Goals as goal

pub returns-clause-given : goal.returns-clause-given
returns-clause-given g c = written_behind _ _ _ _ _ _ _ _ c.in_ok-is_last.ensures.given c.in_ok-ready.ensures.ok

pub returns-in_err-ready-clause-given : goal.returns-in_err-ready-clause-given
returns-in_err-ready-clause-given g c =
    let p = err_from_is_err_and c.from_residual-in_err-ready.result c.from_residual-in_err-ready.ensures.1 in
    rw p.1 (failed_behind _ _ _ _ _ _ _ _ p.0 c.in_ok-is_last.ensures.given c.in_err-ready.ensures.err.1)
