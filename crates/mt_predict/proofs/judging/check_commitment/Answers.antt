use Rattle.std.proofs.Common.{refl}
use Rattle.std.proofs.lemmas.Result.{err_from_is_err_and}
use Rattle.std.specs.Option.{option_copied}
use Rattle.mt_base.specs.declared.command.Refusal.TheVariants.{NoTentative, UnknownCall}
use Rattle.mt_base.proofs.CheckLemmas.{next-ok}
use Rattle.mt_predict.proofs.Refusing.{check-true, marked_is_there, refused_early}
use Rattle.mt_predict.proofs.judging.check_commitment.Goals as goal

pub returns-in_err-marked : goal.returns-in_err-marked
returns-in_err-marked c = λ who tables.
    let p = err_from_is_err_and c.from_residual.result c.from_residual.ensures.1 in
    rw (p.1, p.2) (refused_early _ _ _ _ c.in_err-marked.ensures.err)

pub returns : goal.returns
returns c = λ who tables.
    let is = c.in_ok-marked.ensures.ok in
    let there = marked_is_there (option_copied c.args.looked.now.flight) c.in_ok-marked.field-0.now is in
    rw (there, check-true (UnknownCall c.args.call), is, check-true NoTentative, ← c.has_history.ensures, next-ok, c.must.ensures) refl
