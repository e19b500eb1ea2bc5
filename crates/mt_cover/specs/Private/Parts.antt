-- No public contract names these: they are of private steps and of proofs.
-- The box of a slice, made from those of its parts, each of which is straight.
use Rattle.std.specs.Prelude.{ℕ, ℤ, pos, ◌+ℤ◌, ◌-ℤ◌, ◌*ℤ◌}
use Rattle.std.specs.Int.{int_max}
use Rattle.mt_base.specs.declared.row.Row.{Row}
use Rattle.mt_cover.specs.declared.layer.Layer.{Layer}
use Rattle.mt_cover.specs.declared.bounding_box.BoundingBox.{BoundingBox}
use Rattle.mt_cover.specs.declared.sliced.Slice.{Slice}
use Rattle.mt_cover.specs.Box.{both, extent_of, hull, wider}

-- the heights of so many straight rows with their margins, from a row on
abbrev pub straight_layer : Row → ℕ → Layer
straight_layer row seconds = record {
  low = (extent_of (row.z -ℤ row.w) ((row.vz -ℤ row.gw) *ℤ pos seconds)).low;
  high = (extent_of (row.z +ℤ row.w) ((row.vz +ℤ row.gw) *ℤ pos seconds)).high;
}

-- the least box that holds two
abbrev pub box_of_both : BoundingBox → BoundingBox → BoundingBox
box_of_both a b = record { x = hull a.x b.x; y = hull a.y b.y; margin = int_max a.margin b.margin; layer = both a.layer b.layer }

-- the slice of a box, widened by its greatest margin and half of the minimum
abbrev pub slice_around : ℤ → BoundingBox → Slice
slice_around half a = record { x = wider a.x (a.margin +ℤ half); y = wider a.y (a.margin +ℤ half); layer = a.layer }
