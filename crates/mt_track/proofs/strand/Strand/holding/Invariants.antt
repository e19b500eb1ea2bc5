use Rattle.std.proofs.Common.{◌-◌, ◌<◌, ◌≤◌, length}
use Rattle.mt_track.specs.Laid.{edge}
use Rattle.mt_track.proofs.strand.Strand.holding.Given as goal

abbrev pub invariant-loop-high : goal.invariant-loop-high
invariant-loop-high l = record {
  some : l.low < l.high;
  within : l.high ≤ length l.self-inside.segments.items;
  begun : edge l.self-inside.start l.self-inside.segments.items l.low ≤ l.k;
  ahead : l.k < edge l.self-inside.start l.self-inside.segments.items l.high;
}

abbrev pub decreases-loop-high : goal.decreases-loop-high
decreases-loop-high l = l.high - l.low
