use Rattle.std.proofs.Common.{refl}
use Rattle.std.proofs.lemmas.Result.{err_from_is_err_and}
use Rattle.mt_base.proofs.CheckLemmas.{next-ok}
use Rattle.mt_predict.proofs.judging.check_tick.Goals as goal

pub returns-in_err-must : goal.returns-in_err-must
returns-in_err-must c = λ who tables.
    let p = err_from_is_err_and c.from_residual.result c.from_residual.ensures.1 in
    rw (p.1, p.2, ← c.in_err-must.ensures) refl

pub returns : goal.returns
returns c = λ who tables. rw (← c.in_ok-must.ensures, ← c.has_history.ensures, next-ok, c.must-2.ensures) refl
