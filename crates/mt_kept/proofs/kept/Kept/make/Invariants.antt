use Rattle.std.proofs.Common.{◌≡◌, replicate, None}
use Rattle.mt_kept.proofs.kept.Kept.make.Given as goal

abbrev pub invariant-loop : goal.invariant-loop
invariant-loop l = l.places.items ≡ replicate l.counter None
