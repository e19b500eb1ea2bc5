use Rattle.std.proofs.Common.{◌++◌, refl}
use Rattle.std.proofs.lemmas.Result.{err_from_is_err_and}
use Rattle.mt_base.specs.Decision.{refusal_of}
use Rattle.mt_base.specs.Tables.{fix_checks, length_checks}
use Rattle.mt_base.proofs.CheckLemmas.{judged-map}
use Rattle.mt_predict.proofs.judging.check_route.Goals as goal

pub returns : goal.returns
returns c =
    rw (judged-map refusal_of (fix_checks c.args.tables.now c.args.route.now ++ length_checks c.args.route.now) (tt {0}), ← c.in_ok-route_check.ensures) refl

pub returns-in_err-route_check : goal.returns-in_err-route_check
returns-in_err-route_check c =
    let p = err_from_is_err_and c.from_residual.result c.from_residual.ensures.1 in
    rw (p.1, p.2, judged-map refusal_of (fix_checks c.args.tables.now c.args.route.now ++ length_checks c.args.route.now) (tt {0}), ← c.in_err-route_check.ensures) refl
