use Rattle.std.proofs.Common.{refl}
use Rattle.std.proofs.lemmas.List.{take_all, take_more}
use Rattle.mt_machine.proofs.plain.copies.Goals as goal

pub loop-flight-preserved : goal.loop-flight-preserved
loop-flight-preserved c =
    rw (
      c.in_ok-push.ensures.items,
      c.loop-flight.invariant,
      c.in_ok-copy.ensures,
      take_more c.args.flights.now c.loop-flight.flight-index c.flight-item.result c.loop-flight-test.true,
      ← c.flight-item.is,
    ) refl

pub returns : goal.returns
returns c = rw (c.loop-flight.invariant, take_all c.loop-flight.flight-index c.args.flights.now c.loop-flight-test.false) refl
