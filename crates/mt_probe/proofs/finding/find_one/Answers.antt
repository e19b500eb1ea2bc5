use Rattle.std.proofs.Common.{refl, arith}
use Rattle.mt_probe.proofs.Candidates.{whole_by_hull}
use Rattle.mt_probe.proofs.finding.find_one.Goals as goal

pub in_window-window-requires-clause-whole : goal.in_window-window-requires-clause-whole
in_window-window-requires-clause-whole c = whole_by_hull c.args.rules.now c.args.strand.now c.args.other.now c.args.met.first c.args.met.last c.loss_of-loss.result.span c.requires.within c.requires.ends
    c.loss_of-loss.ensures.conflict

pub returns-clause-found : goal.returns-clause-found
returns-clause-found c = record {
  call_is = refl;
  kind_is = refl;
  whole = whole_by_hull c.args.rules.now c.args.strand.now c.args.other.now c.args.met.first c.args.met.last c.loss_of-loss.result.span c.requires.within c.requires.ends
      c.loss_of-loss.ensures.conflict;
  solid = c.loss_of-loss.ensures.solid;
  window = c.in_window-window.ensures.conflict;
}

-- one test over these seconds, and at most one in the window
pub returns-clause-counted : goal.returns-clause-counted
returns-clause-counted c = omega arith
