use Rattle.std.proofs.Common.{◌≡◌, ◌≤◌, ◌+◌, length}
use Rattle.std.specs.VecDeque.{deque_len, deque_capacity}
use Rattle.mt_desk.specs.Desk.{IsSeatOfDesk}
use Rattle.mt_serve.specs.Private.Seating.{HasSplit}
use Rattle.mt_serve.proofs.seating.split_all.Given as goal

abbrev pub invariant-loop : goal.invariant-loop
invariant-loop l =
    HasSplit l.desk l.fn.first.view l.first.view l.seats.items
    × IsSeatOfDesk l.desk l.first
    × (length l.seats.items ≡ l.counter)
    × (deque_len l.seats ≡ l.counter)
    × (l.many ≤ deque_capacity l.seats)
    × (length l.first.view.gave ≡ length l.fn.first.view.gave + l.counter)
