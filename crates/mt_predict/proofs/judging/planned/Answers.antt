use Rattle.std.proofs.Common.{refl}
use Rattle.mt_base.specs.declared.command.Refusal.TheVariants.{Fixed, UnknownCall}
use Rattle.mt_predict.proofs.Refusing.{check-false, check-true}
use Rattle.mt_predict.proofs.judging.planned.Goals as goal

pub returns-in_default-clause-err : goal.returns-in_default-clause-err
returns-in_default-clause-err c = rw (c.in_default.is, check-false (UnknownCall c.args.call)) refl

pub returns-in_default-path-clause-err : goal.returns-in_default-path-clause-err
returns-in_default-path-clause-err c = rw (c.in-Some.is, check-true (UnknownCall c.args.call), c.in_default-path.is, check-false Fixed) refl
