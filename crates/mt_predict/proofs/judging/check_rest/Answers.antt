use Rattle.std.proofs.Common.{refl}
use Rattle.std.proofs.lemmas.Result.{err_from_is_err_and}
use Rattle.mt_predict.proofs.judging.check_rest.Goals as goal

pub returns-in_err-must : goal.returns-in_err-must
returns-in_err-must c =
    let p = err_from_is_err_and c.from_residual.result c.from_residual.ensures.1 in
    rw (p.1, p.2, ← c.is_below_ceiling.ensures, ← c.in_err-must.ensures) refl

pub returns-in_err-must-2 : goal.returns-in_err-must-2
returns-in_err-must-2 c =
    let p = err_from_is_err_and c.from_residual-in_err-must-2.result c.from_residual-in_err-must-2.ensures.1 in
    rw (p.1, p.2, ← c.is_below_ceiling.ensures, ← c.in_ok-must.ensures, ← c.is_below_ceiling-2.ensures, ← c.in_err-must-2.ensures) refl

pub returns : goal.returns
returns c = rw (← c.is_below_ceiling.ensures, ← c.in_ok-must.ensures, ← c.is_below_ceiling-2.ensures, ← c.in_ok-must-2.ensures, c.check_room.ensures) refl
