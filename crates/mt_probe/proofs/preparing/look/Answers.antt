use Rattle.std.proofs.Common.{None, refl}
use Rattle.mt_predict.specs.declared.judging.Looked.{Looked}
use Rattle.mt_probe.proofs.Looking.{flight_looked, nothing_looked}
use Rattle.mt_probe.proofs.preparing.look.Goals as goal

pub returns-in_default-clause-strand : goal.returns-in_default-clause-strand
returns-in_default-clause-strand c = λ command.
    let looked : Looked = record { now = c.now-now.result; held = c.args.held; entries = c.args.entries; flight = None; strand = None } in
    nothing_looked c.args.snapshot.now.setup looked command refl

pub returns-clause-strand : goal.returns-clause-strand
returns-clause-strand c = λ command.
    let looked : Looked = record { now = c.now-now.result; held = c.args.held; entries = c.args.entries; flight = c.flight.result; strand = c.path.result } in
    flight_looked c.args.snapshot.now c.in-Some.slot looked command c.keeps.ensures.sound c.flight.ensures c.path.ensures
