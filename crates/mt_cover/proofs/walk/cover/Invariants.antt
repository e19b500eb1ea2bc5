use Rattle.std.proofs.Common.{◌≡◌, ◌+◌, ◌*◌, min, flat_map}
use Rattle.std.specs.List.{range_with_len}
use Rattle.mt_cover.specs.Cells.{stays_in}
use Rattle.mt_cover.specs.Private.Walk.{StandsAtSecond}
use Rattle.mt_cover.proofs.walk.cover.Given as goal

abbrev pub invariant-loop-slice : goal.invariant-loop-slice
invariant-loop-slice l = record {
  stands : StandsAtSecond l.start l.segments l.index (min l.end (l.start + 256 * l.slice));
  is : l.cover ≡ flat_map (stays_in l.rules l.strand) (range_with_len 0 l.slice);
}
