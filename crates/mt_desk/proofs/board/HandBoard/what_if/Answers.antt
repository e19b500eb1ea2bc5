use Rattle.mt_board.specs.BoardSeat.{BoardSeat}
use Rattle.mt_desk.specs.Desk.{seat_of}
use Rattle.mt_desk.proofs.Answered.{probed, probed_past, unprobed}
use Rattle.mt_desk.proofs.board.HandBoard.what_if.Goals as goal

pub returns-clause-probed : goal.returns-clause-probed
returns-clause-probed g c =
    let t : BoardSeat = seat_of c.look.new.self.desk.fixed c.look.new.self.view in
    let seen = c.look.ensures.seen in
    probed (seat_of c.args.self.now.desk.fixed c.args.self.now.view) t c.in_ok-snapshot.snapshot c.args.call c.args.clearance c.args.eff c.what_if.result
    seen c.in_ok-snapshot.ensures.taken c.what_if.ensures.probe

pub returns-clause-past : goal.returns-clause-past
returns-clause-past g c =
    let t : BoardSeat = seat_of c.look.new.self.desk.fixed c.look.new.self.view in
    let seen = c.look.ensures.seen in
    probed_past (seat_of c.args.self.now.desk.fixed c.args.self.now.view) t c.in_ok-snapshot.snapshot c.args.call c.args.clearance c.args.eff c.what_if.result
    seen c.in_ok-snapshot.ensures.taken c.what_if.ensures.probe

pub returns-clause-denied : goal.returns-clause-denied
returns-clause-denied g c =
    let t : BoardSeat = seat_of c.look.new.self.desk.fixed c.look.new.self.view in
    let seen = c.look.ensures.seen in
    unprobed (seat_of c.args.self.now.desk.fixed c.args.self.now.view) t c.in_ok-snapshot.snapshot c.args.call c.args.clearance c.args.eff c.what_if.result
    seen c.in_ok-snapshot.ensures.taken c.what_if.ensures.refused
