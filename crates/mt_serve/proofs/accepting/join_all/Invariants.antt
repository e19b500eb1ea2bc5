use Rattle.std.proofs.Common.{◌≡◌, ◌≤◌, ◌+◌, ◌++◌}
use Rattle.std.specs.VecDeque.{deque_len, deque_capacity}
use Rattle.mt_serve.specs.Sitting.{starts_of}
use Rattle.mt_serve.proofs.accepting.join_all.Given as goal

abbrev pub invariant-loop-sitting : goal.invariant-loop-sitting
invariant-loop-sitting g l = (l.fn.sittings.items ≡ starts_of l.dones.items ++ l.sittings.items) × (deque_len l.dones + deque_len l.sittings ≤ deque_capacity l.dones)

abbrev pub decreases-loop-sitting : goal.decreases-loop-sitting
decreases-loop-sitting g l = deque_len l.sittings
