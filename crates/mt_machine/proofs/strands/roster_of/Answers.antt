use Rattle.mt_base.proofs.Others.{others_before}
use Rattle.mt_machine.proofs.strands.roster_of.Goals as goal

pub add_flight-requires-clause-free : goal.add_flight-requires-clause-free
add_flight-requires-clause-free c = rw c.loop-flight.invariant
    (others_before _ c.args.flights.now c.loop-flight.flight-index c.flight-item.result c.requires.own_calls c.loop-flight-test.true c.flight-item.is)
