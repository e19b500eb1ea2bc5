use Rattle.mt_meet.proofs.Bounding.{boxed_by}
use Rattle.mt_meet.proofs.steps.boxed.Goals as goal

pub returns : goal.returns
returns c = boxed_by c.bounds_of.result c.args.approved c.args.slice.now c.reach_of-reach.result c.requires c.reach_of-reach.ensures c.bounds_of.ensures
