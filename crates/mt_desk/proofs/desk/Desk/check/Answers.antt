use Rattle.mt_desk.specs.Desk.{seat_of}
use Rattle.mt_desk.proofs.Answered.{check_taken}
use Rattle.mt_desk.proofs.desk.Desk.check.Goals as goal

pub returns-clause-read : goal.returns-clause-read
returns-clause-read g c =
    check_taken (seat_of c.args.self.now.fixed c.args.seat.now.view) (seat_of c.args.self.now.fixed c.take.new.seat.view) c.in_ok-snapshot.snapshot
    c.in_ok-check.field-0 c.version.result c.take.ensures.seen c.in_ok-snapshot.ensures.taken c.in_ok-check.ensures.published c.version.ensures.version
