use Rattle.std.proofs.Common.{refl}
use Rattle.std.proofs.lemmas.Result.{err_from_is_err_and}
use Rattle.mt_base.specs.declared.command.Refusal.TheVariants.{Ended}
use Rattle.mt_predict.proofs.Refusing.{check-true, check-false}
use Rattle.mt_predict.proofs.clearing.cleared_to.Goals as goal

pub returns-in_default-clause-exact : goal.returns-in_default-clause-exact
returns-in_default-clause-exact c = rw (← c.in_default.ensures.exact, check-false Ended) refl

pub returns-in_err-must-clause-exact : goal.returns-in_err-must-clause-exact
returns-in_err-must-clause-exact c =
    let p = err_from_is_err_and c.from_residual.result c.from_residual.ensures.1 in
    rw (p.1, p.2, ← c.in-Some.ensures.exact, check-true Ended, ← c.is_below_ceiling.ensures, ← c.in_err-must.ensures) refl

pub returns-in_err-must-2-clause-exact : goal.returns-in_err-must-2-clause-exact
returns-in_err-must-2-clause-exact c =
    let p = err_from_is_err_and c.from_residual-in_err-must-2.result c.from_residual-in_err-must-2.ensures.1 in
    rw (p.1, p.2, ← c.in-Some.ensures.exact, check-true Ended, ← c.is_below_ceiling.ensures, ← c.in_ok-must.ensures, ← c.in_err-must-2.ensures) refl

pub returns-clause-exact : goal.returns-clause-exact
returns-clause-exact c = rw (← c.in-Some.ensures.exact, check-true Ended, ← c.is_below_ceiling.ensures, ← c.in_ok-must.ensures, ← c.in_ok-must-2.ensures) refl
