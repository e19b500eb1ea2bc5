use Rattle.std.specs.VecDeque.{deque_len}
use Rattle.mt_desk.specs.Desk.{IsSeatOfDesk}
use Rattle.mt_serve.specs.Private.Joining.{JoinsSeats}
use Rattle.mt_serve.proofs.seating.join_seats.Given as goal

abbrev pub invariant-loop-seat : goal.invariant-loop-seat
invariant-loop-seat l = JoinsSeats l.desk l.fn.first.view l.first.view l.fn.seats.items l.seats.items × IsSeatOfDesk l.desk l.first

abbrev pub decreases-loop-seat : goal.decreases-loop-seat
decreases-loop-seat l = deque_len l.seats
