use Rattle.std.proofs.Common.{refl}
use Rattle.std.proofs.lemmas.Result.{err_from_is_err_and}
use Rattle.mt_predict.proofs.judging.check_external.Goals as goal

pub returns-in_err-must : goal.returns-in_err-must
returns-in_err-must c =
    let p = err_from_is_err_and c.from_residual.result c.from_residual.ensures.1 in
    rw (p.1, p.2, ← c.is_held.ensures, ← c.in_err-must.ensures) refl

pub returns : goal.returns
returns c = rw (← c.is_held.ensures, ← c.in_ok-must.ensures, c.check_room.ensures) refl
