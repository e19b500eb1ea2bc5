use Rattle.std.proofs.Common.{refl, arith}
use Rattle.mt_predict.proofs.Gains.{rest_is}
use Rattle.mt_predict.proofs.Steadiness.{same_before_last, same_in_last}
use Rattle.mt_predict.proofs.steady.phase.Goals as goal

pub returns-then-left-rest-clause-same : goal.returns-then-left-rest-clause-same
returns-then-left-rest-clause-same c = λ k below.
    let rest = rest_is c.args.total c.args.seconds c.from.result c.rem_euclid-rest.result _ c.requires.kept (omega arith) (omega arith) c.from.ensures
    c.rem_euclid-rest.ensures.value refl in
    same_in_last c.args.total c.args.seconds c.args.left k c.requires.some (omega (arith, rest)) below

pub returns-else-left-rest-clause-same : goal.returns-else-left-rest-clause-same
returns-else-left-rest-clause-same c = λ k below.
    let rest = rest_is c.args.total c.args.seconds c.from.result c.rem_euclid-rest.result _ c.requires.kept (omega arith) (omega arith) c.from.ensures
    c.rem_euclid-rest.ensures.value refl in
    same_before_last c.args.total c.args.seconds c.args.left k (omega (arith, rest))
