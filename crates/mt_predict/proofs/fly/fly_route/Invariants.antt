use Rattle.std.proofs.Common.{◌-◌, length}
use Rattle.mt_base.specs.Predictor.{base_place}
use Rattle.mt_predict.specs.Manners.{manner}
use Rattle.mt_predict.proofs.Routes.{IsOnCourse}
use Rattle.mt_predict.proofs.fly.fly_route.Given as goal

abbrev pub invariant-loop-number : goal.invariant-loop-number
invariant-loop-number l = IsOnCourse (manner l.rules l.bands l.level) l.fixes l.base.next l.base.at l.fn.rvsm (base_place l.base) l.number l.strand l.place

abbrev pub decreases-loop-number : goal.decreases-loop-number
decreases-loop-number l = length l.fixes - l.number
