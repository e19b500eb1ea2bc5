use Rattle.std.proofs.Common.{◌-◌, ◌<◌, ◌≤◌}
use Rattle.mt_track.specs.Laid.{all_rows}
use Rattle.mt_cover.specs.Private.InPlane.{IsBoxInPlane}
use Rattle.mt_cover.specs.Private.Walk.{IsBoxOver, StandsAtSecond}
use Rattle.mt_cover.proofs.walk.gather.Given as goal

abbrev pub invariant-loop-gathered : goal.invariant-loop-gathered
invariant-loop-gathered l = record {
  is : IsBoxOver (all_rows l.segments) (l.from - l.start) (l.gathered.until - l.from) l.gathered.bounds;
  kept : IsBoxInPlane l.gathered.bounds;
  begun : l.from < l.gathered.until;
  within : l.gathered.until ≤ l.to;
  stands : StandsAtSecond l.start l.segments l.gathered.index l.gathered.until;
}

abbrev pub decreases-loop-gathered : goal.decreases-loop-gathered
decreases-loop-gathered l = l.to - l.gathered.until
