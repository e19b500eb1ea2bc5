use Rattle.std.specs.VecDeque.{deque_len}
use Rattle.mt_desk.specs.Desk.{IsSeatOfDesk}
use Rattle.mt_serve.specs.Tied.{doorway_of}
use Rattle.mt_serve.specs.Private.Joining.{JoinsSessions}
use Rattle.mt_serve.proofs.seating.join_sessions.Given as goal

abbrev pub invariant-loop-done : goal.invariant-loop-done
invariant-loop-done g l =
    JoinsSessions g.D.Link.Source g.D.Link.Sink l.desk l.fn.first.view l.first.view l.fn.dones.items l.dones.items
    (doorway_of g.D.Door.count g.D.Door.still g.D.Door.returned g.D.Door.faults l.fn.door)
    (doorway_of g.D.Door.count g.D.Door.still g.D.Door.returned g.D.Door.faults l.door) l.counts
    × IsSeatOfDesk l.desk l.first

abbrev pub decreases-loop-done : goal.decreases-loop-done
decreases-loop-done g l = deque_len l.dones
