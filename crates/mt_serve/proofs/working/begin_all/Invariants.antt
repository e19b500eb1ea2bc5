use Rattle.std.proofs.Common.{◌≡◌, ◌≤◌, ◌+◌, ◌++◌, All, length}
use Rattle.std.specs.VecDeque.{deque_len, deque_capacity}
use Rattle.mt_desk.specs.Desk.{IsSeatOfDesk}
use Rattle.mt_serve.specs.Private.Working.{seats_begun, started_of}
use Rattle.mt_serve.proofs.working.begin_all.Given as goal

abbrev pub invariant-loop-seat : goal.invariant-loop-seat
invariant-loop-seat g l = record {
  begun : l.fn.seats.items ≡ seats_begun l.workings.items ++ l.seats.items;
  ready : All (IsSeatOfDesk l.desk) l.seats.items;
  room : deque_len l.workings + deque_len l.seats ≤ deque_capacity l.workings;
  few : length l.workings.items + deque_len l.seats ≤ deque_len l.fn.seats;
  place : l.place ≤ length l.workings.items;
  started : l.started ≡ started_of l.workings.items;
}

abbrev pub decreases-loop-seat : goal.decreases-loop-seat
decreases-loop-seat g l = deque_len l.seats
