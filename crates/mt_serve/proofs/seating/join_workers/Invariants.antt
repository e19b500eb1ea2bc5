use Rattle.std.specs.VecDeque.{deque_len}
use Rattle.mt_desk.specs.Desk.{IsSeatOfDesk}
use Rattle.mt_serve.specs.Private.Joining.{JoinsWorkers}
use Rattle.mt_serve.proofs.seating.join_workers.Given as goal

abbrev pub invariant-loop-rested : goal.invariant-loop-rested
invariant-loop-rested l = JoinsWorkers l.desk l.fn.first.view l.first.view l.fn.resteds.items l.resteds.items × IsSeatOfDesk l.desk l.first

abbrev pub decreases-loop-rested : goal.decreases-loop-rested
decreases-loop-rested l = deque_len l.resteds
