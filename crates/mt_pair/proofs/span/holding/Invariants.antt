use Rattle.std.proofs.Common.{◌-◌, ◌≤◌, length}
use Rattle.mt_track.specs.Laid.{edge}
use Rattle.mt_pair.proofs.span.holding.Given as goal

abbrev pub invariant-loop-place : goal.invariant-loop-place
invariant-loop-place l = record {
  begun : edge l.strand.start l.segments l.place ≤ l.k;
}

abbrev pub decreases-loop-place : goal.decreases-loop-place
decreases-loop-place l = length l.segments - l.place
