use Rattle.std.proofs.Common.{arith}
use Rattle.mt_base.specs.Trajectory.{horizon}
use Rattle.mt_probe.proofs.finding.in_window.Goals as goal

pub returns-in-Some-clause-conflict : goal.returns-in-Some-clause-conflict
returns-in-Some-clause-conflict c =
    c.in-Some.ensures.exact c.args.rules.now c.args.strand.now c.args.other.now 0 horizon (omega arith) (omega arith) c.requires.whole

pub returns-in-None-clause-conflict : goal.returns-in-None-clause-conflict
returns-in-None-clause-conflict c =
    c.part_within.ensures c.args.rules.now c.args.strand.now c.args.other.now 0 horizon (omega arith) (omega arith) c.requires.whole
    (c.requires.solid c.if-loss.true)
