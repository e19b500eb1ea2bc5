use Rattle.std.proofs.Common.{◌≤◌, ◌+◌, ◌*◌, [], length, take}
use Rattle.mt_probe.specs.Private.Finds.{FindsMore}
use Rattle.mt_probe.proofs.Candidates.{others_met}
use Rattle.mt_probe.proofs.finding.find_among.Given as goal

abbrev pub invariant-loop-met : goal.invariant-loop-met
invariant-loop-met l = record {
  found : FindsMore l.snapshot.setup.rules l.snapshot.now l.strand (others_met l.call l.snapshot.slots (take l.met-index l.list)) [] l.finds;
  counted : l.tests ≤ l.fn.tests + 2 * length (others_met l.call l.snapshot.slots (take l.met-index l.list));
}
