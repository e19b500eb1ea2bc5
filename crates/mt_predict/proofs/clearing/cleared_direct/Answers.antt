use Rattle.std.proofs.Common.{refl}
use Rattle.std.proofs.lemmas.Result.{err_from_is_err_and}
use Rattle.mt_base.specs.declared.command.Refusal.TheVariants.{Ended, NotAhead}
use Rattle.mt_predict.proofs.Refusing.{check-true, check-false}
use Rattle.mt_predict.proofs.clearing.cleared_direct.Goals as goal

pub returns-in_default-clause-exact : goal.returns-in_default-clause-exact
returns-in_default-clause-exact c = rw (← c.fix.ensures.fix, ← c.is_some.ensures, ← c.in_ok-must.ensures, ← c.in_default.ensures.exact, check-false Ended) refl

pub returns-in_default-place_behind-clause-exact : goal.returns-in_default-place_behind-clause-exact
returns-in_default-place_behind-clause-exact c =
    rw (← c.fix.ensures.fix, ← c.is_some.ensures, ← c.in_ok-must.ensures, ← c.in-Some.ensures.exact, check-true Ended, ← c.in_default-place_behind.ensures, check-false NotAhead) refl

pub returns-in_err-must-2-clause-exact : goal.returns-in_err-must-2-clause-exact
returns-in_err-must-2-clause-exact c =
    let p = err_from_is_err_and c.from_residual-in_err-must-2.result c.from_residual-in_err-must-2.ensures.1 in
    rw (
      p.1,
      p.2,
      ← c.fix.ensures.fix,
      ← c.is_some.ensures,
      ← c.in_ok-must.ensures,
      ← c.in-Some.ensures.exact,
      check-true Ended,
      ← c.in-Some-place_behind.ensures,
      check-true NotAhead,
      ← c.in_err-must-2.ensures,
    ) refl

pub returns-clause-exact : goal.returns-clause-exact
returns-clause-exact c =
    rw (
      ← c.fix.ensures.fix,
      ← c.is_some.ensures,
      ← c.in_ok-must.ensures,
      ← c.in-Some.ensures.exact,
      check-true Ended,
      ← c.in-Some-place_behind.ensures,
      check-true NotAhead,
      ← c.in_ok-must-2.ensures,
      c.flying_to.ensures,
    ) refl
