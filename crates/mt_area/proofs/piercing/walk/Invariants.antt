use Rattle.std.proofs.Common.{◌≤◌, ◌<◌}
use Rattle.mt_base.specs.Area.{IsPierce}
use Rattle.mt_track.specs.Laid.{edge}
use Rattle.mt_area.proofs.piercing.walk.Given as goal

abbrev pub invariant-loop-segment : goal.invariant-loop-segment
invariant-loop-segment l = record {
  ordered : l.from ≤ l.reached;
  within : l.reached ≤ l.to;
  ahead : l.reached < l.to → edge l.strand.start l.segments l.segment-index ≤ l.reached;
  pierce : IsPierce l.strand l.area l.from l.reached l.span;
}
