use Rattle.mt_track.proofs.Moved.{later_is}
use Rattle.mt_track.proofs.segment.later.Goals as goal

pub returns : goal.returns
returns c = later_is c.args.first.now c.args.seconds c.requires _ _ _ _ _
    c.moved.ensures c.moved-2.ensures c.moved-3.ensures c.moved-4.ensures c.moved-5.ensures
