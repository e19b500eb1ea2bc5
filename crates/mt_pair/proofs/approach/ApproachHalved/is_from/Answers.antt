use Rattle.mt_pair.proofs.Low.{by_low, low_over}
use Rattle.mt_pair.proofs.approach.ApproachHalved.is_from.Goals as goal

pub lasts_until-requires-clause-convex : goal.lasts_until-requires-clause-convex
lasts_until-requires-clause-convex c = (c.goes_by_values.ensures c.if-not-goes_by_values.false).0

pub returns-clause-is : goal.returns-clause-is
returns-clause-is c =
    let x = c.args.self.now in
    let none = (c.goes_by_values.ensures c.if-not-goes_by_values.false).1 in
    by_low x _ c.args.middle c.args.high none
    (c.lasts_until.ensures c.requires.some.0 c.args.high c.requires.ordered ((low_over x c.requires.some.0 c.args.high none).0 c.requires.some.1))
