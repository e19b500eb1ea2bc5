use Rattle.std.proofs.Common.{◌≡◌, ◌≤◌, ◌+◌, []}
use Rattle.std.specs.VecDeque.{deque_len, deque_capacity}
use Rattle.mt_serve.specs.Private.Accepting.{Accepting}
use Rattle.mt_serve.specs.Sitting.{HaveNoChannel}
use Rattle.mt_serve.proofs.accepting.accept.Given as goal

abbrev pub invariant-loop : goal.invariant-loop
invariant-loop g l =
    Accepting l.desk (g.D.Door.count l.fn.door) (g.D.Door.count l.door) (g.D.Door.still l.fn.door) (g.D.Door.still l.door) l.fn.seats.items l.seats.items l.sittings.items
    × (deque_len l.sittings + deque_len l.seats ≤ deque_capacity l.sittings)
    × (g.D.Door.returned l.door ≡ g.D.Door.returned l.fn.door)
    × (g.D.Door.faults l.fn.door ≤ g.D.Door.faults l.door)
    × (l.fn.senders.items ≡ [] → (l.senders.items ≡ []) × HaveNoChannel l.sittings.items)
