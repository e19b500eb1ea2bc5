use Rattle.std.proofs.Common.{◌≡◌, length}
use Rattle.mt_snapshot.proofs.trying.tries.Given as goal

abbrev pub invariant-loop : goal.invariant-loop
invariant-loop g l = length l.tries.items ≡ l.counter
