use Rattle.std.proofs.Common.{◌≡◌, ◌≤◌, ◌+◌, ◌++◌, All, map}
use Rattle.std.specs.VecDeque.{deque_len, deque_capacity}
use Rattle.mt_desk.specs.Desk.{IsSeatOfDesk}
use Rattle.mt_serve.specs.Private.Working.{Begun, begun_as}
use Rattle.mt_serve.proofs.working.rest_all.Given as goal

abbrev pub invariant-loop-working : goal.invariant-loop-working
invariant-loop-working g l = record {
  rested : l.fn.workings.items ≡ map begun_as l.resteds.items ++ l.workings.items;
  ready : All (λ (b : Begun). IsSeatOfDesk l.desk b.seat) l.workings.items;
  room : deque_len l.resteds + deque_len l.workings ≤ deque_capacity l.resteds;
}

abbrev pub decreases-loop-working : goal.decreases-loop-working
decreases-loop-working g l = deque_len l.workings
