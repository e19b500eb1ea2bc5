use Rattle.mt_board.specs.BoardSeat.{BoardSeat}
use Rattle.mt_desk.specs.Desk.{seat_of}
use Rattle.mt_desk.proofs.Answered.{advised, advised_past, unadvised}
use Rattle.mt_desk.proofs.board.HandBoard.advise.Goals as goal

pub returns-clause-advised : goal.returns-clause-advised
returns-clause-advised g c =
    let t : BoardSeat = seat_of c.look.new.self.desk.fixed c.look.new.self.view in
    let seen = c.look.ensures.seen in
    advised (λ a. a.eff) (λ a. a.version) (λ a. a.probes.items) (seat_of c.args.self.now.desk.fixed c.args.self.now.view) t c.in_ok-snapshot.snapshot c.args.call
    c.advise.result seen c.in_ok-snapshot.ensures.taken c.advise.ensures.advised

pub returns-clause-past : goal.returns-clause-past
returns-clause-past g c =
    let t : BoardSeat = seat_of c.look.new.self.desk.fixed c.look.new.self.view in
    let seen = c.look.ensures.seen in
    advised_past (λ a. a.eff) (λ a. a.version) (λ a. a.probes.items) (seat_of c.args.self.now.desk.fixed c.args.self.now.view) t c.in_ok-snapshot.snapshot c.args.call
    c.advise.result seen c.in_ok-snapshot.ensures.taken c.advise.ensures.advised

pub returns-clause-denied : goal.returns-clause-denied
returns-clause-denied g c =
    let t : BoardSeat = seat_of c.look.new.self.desk.fixed c.look.new.self.view in
    let seen = c.look.ensures.seen in
    unadvised (λ a. a.eff) (λ a. a.version) (λ a. a.probes.items) (seat_of c.args.self.now.desk.fixed c.args.self.now.view) t c.in_ok-snapshot.snapshot c.args.call
    c.advise.result seen c.in_ok-snapshot.ensures.taken c.advise.ensures.refused
