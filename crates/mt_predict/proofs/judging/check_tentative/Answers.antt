use Rattle.std.proofs.Common.{refl}
use Rattle.std.proofs.lemmas.Result.{err_from_is_err_and}
use Rattle.mt_base.specs.declared.command.Refusal.TheVariants.{TentativeHeld}
use Rattle.mt_base.proofs.CheckLemmas.{judged-append, next-ok}
use Rattle.mt_predict.proofs.Refusing.{by_parts, check-false, check-true}
use Rattle.mt_predict.proofs.judging.check_tentative.Goals as goal

pub returns-in_err-check_aim : goal.returns-in_err-check_aim
returns-in_err-check_aim c = λ who.
    let p = err_from_is_err_and c.from_residual.result c.from_residual.ensures.1 in
    rw (p.1, p.2, judged-append, by_parts, ← c.in_err-check_aim.ensures) refl

pub returns-in-Some : goal.returns-in-Some
returns-in-Some c = λ who.
    rw (judged-append, by_parts, ← c.in_ok-check_aim.ensures, ← c.mark_in.ensures, c.in-Some.is, check-false (TentativeHeld c.in-Some.mark.now.owner)) refl

pub returns-in_err-must : goal.returns-in_err-must
returns-in_err-must c = λ who.
    let p = err_from_is_err_and c.from_residual-in_err-must.result c.from_residual-in_err-must.ensures.1 in
    rw (p.1, p.2, judged-append, by_parts, ← c.in_ok-check_aim.ensures, ← c.mark_in.ensures, c.in_default.is, check-true (TentativeHeld 0), ← c.in_err-must.ensures) refl

pub returns : goal.returns
returns c = λ who.
    rw (
      judged-append,
      by_parts,
      ← c.in_ok-check_aim.ensures,
      ← c.mark_in.ensures,
      c.in_default.is,
      check-true (TentativeHeld 0),
      ← c.in_ok-must.ensures,
      ← c.has_history.ensures,
      next-ok,
      c.must-2.ensures,
    ) refl
