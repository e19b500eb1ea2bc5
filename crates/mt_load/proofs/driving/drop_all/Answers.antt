use Rattle.mt_load.specs.Load.{IsDroppedFlight}
use Rattle.mt_load.proofs.Asking.{each_more, each_none}
use Rattle.mt_load.proofs.driving.drop_all.Goals as goal

pub loop-flight-init : goal.loop-flight-init
loop-flight-init g c = each_none IsDroppedFlight 5 c.args.script.now

pub loop-flight-preserved : goal.loop-flight-preserved
loop-flight-preserved g c =
    each_more IsDroppedFlight 5 c.loop-flight.flight c.args.script.now c.loop-flight.script c.drop_fifth.new.script c.loop-flight.invariant c.in-Ok.ensures
