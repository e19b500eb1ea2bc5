use borrow.Author.Count.{below_more}
use Rattle.mt_base.specs.Area.{HasAllLeft}
use Rattle.mt_area.proofs.shape.are_convex.Goals as goal

pub loop-i-preserved : goal.loop-i-preserved
loop-i-preserved c = below_more (HasAllLeft c.args.corners.now) c.loop-i.i c.loop-i.invariant (c.has_all_left.ensures.0 c.if-not-has_all_left.false)
