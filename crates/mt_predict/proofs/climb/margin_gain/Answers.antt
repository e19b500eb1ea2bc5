use Rattle.mt_predict.proofs.Casts.{growth_is}
use Rattle.mt_predict.proofs.Margins.{margin_climbing, margin_gain_climbing}
use Rattle.mt_predict.proofs.climb.margin_gain.Goals as goal

pub returns-else-climb-eq0 : goal.returns-else-climb-eq0
returns-else-climb-eq0 c =
    let kept = margin_climbing c.args.rules.now c.args.climb c.args.w c.if-climb-eq0.false c.requires.kept in
    margin_gain_climbing c.args.rules.now c.args.climb c.args.w _ c.if-climb-eq0.false
    (growth_is c.args.rules.now.gv c.args.rules.now.wmax c.args.w c.min.result c.requires.rules_kept.gv c.requires.rules_kept.wmax kept c.min.ensures.value)
