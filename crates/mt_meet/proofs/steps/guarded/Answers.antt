use Rattle.mt_meet.proofs.Bounding.{guarded_by}
use Rattle.mt_meet.proofs.steps.guarded.Goals as goal

pub returns : goal.returns
returns c = guarded_by c.args.rules.now c.bounds_of.result c.args.approved c.args.slice.now c.guard_of-guard.result c.requires.rules c.requires.kept
    c.guard_of-guard.ensures c.bounds_of.ensures
