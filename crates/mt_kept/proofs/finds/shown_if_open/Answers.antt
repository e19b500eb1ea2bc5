use Rattle.mt_kept.proofs.Costs.{tested_rose}
use Rattle.mt_kept.proofs.finds.shown_if_open.Goals as goal

pub returns-then-is_open-clause-counted : goal.returns-then-is_open-clause-counted
returns-then-is_open-clause-counted c = tested_rose c.args.now c.args.edge.now c.args.tests.now _ c.shown_pair.ensures.counted
