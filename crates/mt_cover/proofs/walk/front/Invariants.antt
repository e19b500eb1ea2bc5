use Rattle.std.proofs.Common.{◌≡◌, ◌+◌, ◌*◌, All, min, map}
use Rattle.std.specs.List.{range_with_len}
use Rattle.mt_cover.specs.Layer.{IsLayerKept}
use Rattle.mt_cover.specs.declared.sliced.Slice.{Slice}
use Rattle.mt_cover.specs.Sliced.{slice_in}
use Rattle.mt_cover.specs.Private.Walk.{StandsAtSecond}
use Rattle.mt_cover.proofs.walk.front.Given as goal

abbrev pub invariant-loop-slice : goal.invariant-loop-slice
invariant-loop-slice l = record {
  stands : StandsAtSecond l.start l.segments l.index (min l.end (l.start + 128 * l.slice));
  is : l.list.items ≡ map (slice_in l.rules l.strand) (range_with_len 0 l.slice);
  each : All (λ (slice : Slice). IsLayerKept slice.layer) l.list.items;
}
