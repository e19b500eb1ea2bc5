use Rattle.mt_pair.proofs.Low.{by_low, low_over}
use Rattle.mt_pair.proofs.approach.ApproachHalved.is_before.Goals as goal

pub begins_before-requires-clause-convex : goal.begins_before-requires-clause-convex
begins_before-requires-clause-convex c = (c.goes_by_values.ensures c.if-not-goes_by_values.false).0

pub returns-clause-is : goal.returns-clause-is
returns-clause-is c =
    let x = c.args.self.now in
    let none = (c.goes_by_values.ensures c.if-not-goes_by_values.false).1 in
    by_low x _ c.args.low c.args.middle none
    (c.begins_before.ensures c.args.low c.requires.some.0 c.requires.ordered ((low_over x c.args.low c.requires.some.0 none).0 c.requires.some.1))
