use Rattle.std.proofs.Common.{arith}
use Rattle.mt_load.specs.Load.{IsAdvisedFlight}
use Rattle.mt_load.proofs.Asking.{each_more, each_none}
use Rattle.mt_load.proofs.Numbers.{each_made}
use Rattle.mt_load.proofs.driving.advise_all.Goals as goal

pub advise_eighth-requires-clause-probes : goal.advise_eighth-requires-clause-probes
advise_eighth-requires-clause-probes g c κs within =
    let made = each_made c.loop-flight.flight c.args.script.now c.loop-flight.script c.loop-flight.invariant in
    omega (arith, made, c.requires.none, c.requires.flights, c.loop-flight-test.true)

pub loop-flight-init : goal.loop-flight-init
loop-flight-init g c = each_none IsAdvisedFlight 8 c.args.script.now

pub loop-flight-preserved : goal.loop-flight-preserved
loop-flight-preserved g c =
    each_more IsAdvisedFlight 8 c.loop-flight.flight c.args.script.now c.loop-flight.script c.advise_eighth.new.script c.loop-flight.invariant c.in-Ok.ensures
