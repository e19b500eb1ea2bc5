use Rattle.mt_predict.specs.Manners.{manner}
use Rattle.mt_predict.proofs.Legs.{IsUnderWay}
use Rattle.mt_predict.proofs.fly.fly_leg.Given as goal

abbrev pub invariant-loop-left : goal.invariant-loop-left
invariant-loop-left l = IsUnderWay (manner l.rules l.bands l.level) l.leg l.fn.strand l.fn.from l.cut l.strand l.left l.place

abbrev pub decreases-loop-left : goal.decreases-loop-left
decreases-loop-left l = l.left
