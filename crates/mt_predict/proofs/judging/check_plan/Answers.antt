use Rattle.std.proofs.Common.{refl}
use Rattle.std.proofs.lemmas.Result.{err_from_is_err_and}
use Rattle.mt_base.proofs.CheckLemmas.{judged-append}
use Rattle.mt_predict.proofs.judging.check_plan.Goals as goal

pub returns-in_err-must : goal.returns-in_err-must
returns-in_err-must c = λ who call at rvsm.
    let p = err_from_is_err_and c.from_residual.result c.from_residual.ensures.1 in
    rw (p.1, p.2, ← c.is_held.ensures, ← c.in_err-must.ensures) refl

pub returns-in_err-must-2 : goal.returns-in_err-must-2
returns-in_err-must-2 c = λ who call at rvsm.
    let p = err_from_is_err_and c.from_residual-in_err-must-2.result c.from_residual-in_err-must-2.ensures.1 in
    rw (p.1, p.2, ← c.is_held.ensures, ← c.in_ok-must.ensures, ← c.is_known.ensures, ← c.in_err-must-2.ensures) refl

pub returns-in_err-check_route : goal.returns-in_err-check_route
returns-in_err-check_route c = λ who call at rvsm.
    let p = err_from_is_err_and c.from_residual-in_err-check_route.result c.from_residual-in_err-check_route.ensures.1 in
    rw (p.1, p.2, ← c.is_held.ensures, ← c.in_ok-must.ensures, ← c.is_known.ensures, ← c.in_ok-must-2.ensures, judged-append, ← c.in_err-check_route.ensures) refl

pub returns : goal.returns
returns c = λ who call at rvsm.
    rw (← c.is_held.ensures, ← c.in_ok-must.ensures, ← c.is_known.ensures, ← c.in_ok-must-2.ensures, judged-append, ← c.in_ok-check_route.ensures, c.check_rest.ensures) refl
