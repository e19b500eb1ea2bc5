use Rattle.std.proofs.Common.{arith}
use Rattle.std.proofs.Common.{take_all}
use Rattle.mt_grid.proofs.Near.{near_more}
use Rattle.mt_grid.proofs.nearness.mark_near.Goals as goal

pub loop-placed-preserved : goal.loop-placed-preserved
loop-placed-preserved c = near_more _ _ _ _ _ _ _ c.loop-placed-test.true c.loop-placed.invariant c.in_ok-mark_if_near.ensures

pub returns : goal.returns
returns c = let h = c.loop-placed.invariant in let e = take_all c.loop-placed.placed-index c.args.list.now (omega arith) in rw e at h
