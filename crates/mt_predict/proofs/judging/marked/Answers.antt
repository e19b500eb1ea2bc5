use Rattle.std.proofs.Common.{refl}
use Rattle.mt_base.specs.declared.command.Refusal.TheVariants.{NoTentative}
use Rattle.mt_predict.proofs.Refusing.{check-false}
use Rattle.mt_predict.proofs.judging.marked.Goals as goal

pub returns-in_default-clause-err : goal.returns-in_default-clause-err
returns-in_default-clause-err c =
    rw (← c.is_held.ensures, ← c.in_ok-must.ensures, ← c.mark_in.ensures, c.in_default.is, check-false NoTentative) refl
