use Rattle.std.proofs.Common.{◌∙◌, sym}
use Rattle.mt_desk.specs.Desk.{seat_of}
use Rattle.mt_desk.proofs.Answered.{flight_taken, no_flight_taken}
use Rattle.mt_desk.proofs.desk.Desk.flight.Goals as goal

pub returns-in-Some-clause-read : goal.returns-in-Some-clause-read
returns-in-Some-clause-read g c =
    flight_taken (seat_of c.args.self.now.fixed c.args.seat.now.view) (seat_of c.args.self.now.fixed c.take.new.seat.view) c.in_ok-snapshot.snapshot
    c.args.call c.args.sec c.in-Some.view c.take.ensures.seen c.in_ok-snapshot.ensures.taken (sym c.view_of_call.ensures ∙ c.in-Some.is)

pub returns-clause-read : goal.returns-clause-read
returns-clause-read g c =
    no_flight_taken (seat_of c.args.self.now.fixed c.args.seat.now.view) (seat_of c.args.self.now.fixed c.take.new.seat.view) c.in_ok-snapshot.snapshot
    c.args.call c.args.sec c.version.result c.take.ensures.seen c.in_ok-snapshot.ensures.taken (sym c.view_of_call.ensures ∙ c.in-None.is) c.version.ensures.version
