use Rattle.std.proofs.Common.{◌≡◌, ◌||◌, nat_eq, refl}
use Rattle.std.proofs.lemmas.Result.{err_from_is_err_and}
use Rattle.std.specs.Option.{option_copied}
use Rattle.mt_base.specs.declared.command.Refusal.TheVariants.{NoTentative, UnknownCall}
use Rattle.mt_base.proofs.CheckLemmas.{next-ok}
use Rattle.mt_predict.proofs.Refusing.{check-true, marked_is_there, refused_early}
use Rattle.mt_predict.proofs.judging.check_withdrawal.Goals as goal
use Rattle.mt_predict.proofs.judging.check_withdrawal.Goals.{then-force, else-force}

pub returns-in_err-mark : goal.returns-in_err-mark
returns-in_err-mark c = λ tables.
    let p = err_from_is_err_and c.from_residual.result c.from_residual.ensures.1 in
    rw (p.1, p.2) (refused_early _ _ _ _ c.in_err-mark.ensures.err)

pub returns-in_err-must : goal.returns-in_err-must
returns-in_err-must c = λ tables.
    let p = err_from_is_err_and c.from_residual-in_err-must.result c.from_residual-in_err-must.ensures.1 in
    let is = c.in_ok-mark.ensures.ok in
    let there = marked_is_there (option_copied c.args.looked.now.flight) c.in_ok-mark.mark.now is in
    let may : c.if-force.must ≡ c.args.force || nat_eq c.in_ok-mark.mark.now.owner c.args.who =
    elim c.if-force.branch [ then-force w ↦ rw (w.must-is, w.if-force.true) refl | else-force w ↦ rw (w.must-is, w.if-force.false) refl ] in
    rw (p.1, p.2, there, check-true (UnknownCall c.args.call), is, check-true NoTentative, ← may, ← c.in_err-must.ensures) refl

pub returns : goal.returns
returns c = λ tables.
    let is = c.in_ok-mark.ensures.ok in
    let there = marked_is_there (option_copied c.args.looked.now.flight) c.in_ok-mark.mark.now is in
    let may : c.if-force.must ≡ c.args.force || nat_eq c.in_ok-mark.mark.now.owner c.args.who =
    elim c.if-force.branch [ then-force w ↦ rw (w.must-is, w.if-force.true) refl | else-force w ↦ rw (w.must-is, w.if-force.false) refl ] in
    rw (there, check-true (UnknownCall c.args.call), is, check-true NoTentative, ← may, ← c.in_ok-must.ensures, ← c.has_history.ensures, next-ok, c.must-2.ensures) refl
