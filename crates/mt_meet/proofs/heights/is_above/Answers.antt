use Rattle.mt_meet.proofs.Layers.{at_least}
use Rattle.mt_meet.proofs.heights.is_above.Goals as goal

pub returns : goal.returns
returns c =
    at_least c.args.least.now c.args.low.now c.args.high.now c.from.result c.requires.least_kept c.requires.low_kept c.requires.high_kept c.from.ensures
