use Rattle.mt_probe.proofs.Candidates.{part_by_hull}
use Rattle.mt_probe.proofs.Least.{one_least}
use Rattle.mt_probe.proofs.hitting.met_in_window.Goals as goal

pub returns-clause-conflict : goal.returns-clause-conflict
returns-clause-conflict c = part_by_hull c.args.rules.now c.args.strand.now c.args.other.now c.args.met.first c.args.met.last c.args.now _ _ _ c.lose.result
    c.max-from.ensures c.min-to.ensures c.requires.within c.lose.ensures.conflict

pub returns-clause-tested : goal.returns-clause-tested
returns-clause-tested c = one_least c.args.tests.now _ c.lose.ensures.counted
