use Rattle.std.proofs.Common.{refl}
use Rattle.std.proofs.lemmas.Result.{err_from_is_err_and}
use Rattle.std.specs.Option.{option_copied}
use Rattle.mt_base.specs.declared.command.Refusal.TheVariants.{Fixed, UnknownCall}
use Rattle.mt_base.proofs.CheckLemmas.{next-ok}
use Rattle.mt_predict.proofs.Refusing.{check-true, planned_is_there, refused_early}
use Rattle.mt_predict.proofs.judging.check_report.Goals as goal

pub returns-in_err-course : goal.returns-in_err-course
returns-in_err-course c = λ who tables.
    let p = err_from_is_err_and c.from_residual.result c.from_residual.ensures.1 in
    rw (p.1, p.2) (refused_early _ _ _ _ c.in_err-course.ensures.err)

pub returns-in_err-must : goal.returns-in_err-must
returns-in_err-must c = λ who tables.
    let p = err_from_is_err_and c.from_residual-in_err-must.result c.from_residual-in_err-must.ensures.1 in
    let is = c.in_ok-course.ensures.ok in
    let there = planned_is_there (option_copied c.args.looked.now.flight) c.in_ok-course.course.now is in
    rw (p.1, p.2, there, check-true (UnknownCall c.args.call), is, check-true Fixed, ← c.is_later.ensures, ← c.in_err-must.ensures) refl

pub returns-in_err-must-2 : goal.returns-in_err-must-2
returns-in_err-must-2 c = λ who tables.
    let p = err_from_is_err_and c.from_residual-in_err-must-2.result c.from_residual-in_err-must-2.ensures.1 in
    let is = c.in_ok-course.ensures.ok in
    let there = planned_is_there (option_copied c.args.looked.now.flight) c.in_ok-course.course.now is in
    rw (p.1, p.2, there, check-true (UnknownCall c.args.call), is, check-true Fixed, ← c.is_later.ensures, ← c.in_ok-must.ensures, ← c.in_err-must-2.ensures) refl

pub returns : goal.returns
returns c = λ who tables.
    let is = c.in_ok-course.ensures.ok in
    let there = planned_is_there (option_copied c.args.looked.now.flight) c.in_ok-course.course.now is in
    rw (there, check-true (UnknownCall c.args.call), is, check-true Fixed, ← c.is_later.ensures, ← c.in_ok-must.ensures, ← c.in_ok-must-2.ensures, ← c.has_history.ensures, next-ok, c.must-3.ensures) refl
