use Rattle.mt_track.specs.Laid.{edge}
use Rattle.mt_area.proofs.Passing.{HoldsBefore}
use Rattle.mt_area.proofs.volume.volume_over.Given as goal

abbrev pub invariant-loop-segment : goal.invariant-loop-segment
invariant-loop-segment l = HoldsBefore l.volume l.strand l.from l.to (edge l.strand.start l.segments l.segment-index)
