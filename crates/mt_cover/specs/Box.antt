-- The box of some rows: where they are at any instant, in height with the vertical margin below and above, and their greatest margin.
use Rattle.std.specs.Prelude.{ℤ, pos, ◌+ℤ◌, ◌-ℤ◌, int_div, List, [], ◌∷◌}
use Rattle.std.specs.Int.{int_max, int_min}
use Rattle.mt_base.specs.declared.row.Row.{Row}
use Rattle.mt_base.specs.declared.rules.Rules.{Rules}
use Rattle.mt_cover.specs.declared.layer.Layer.{Layer}
use Rattle.mt_cover.specs.declared.bounding_box.BoundingBox.{BoundingBox}
use Rattle.mt_cover.specs.declared.bounding_box.Extent.{Extent}

-- the values between a value and its value after a gain
abbrev pub extent_of : ℤ → ℤ → Extent
extent_of z gain = record { low = int_min z (z +ℤ gain); high = int_max z (z +ℤ gain) }

-- the least extent that holds both
abbrev pub hull : Extent → Extent → Extent
hull a b = record { low = int_min a.low b.low; high = int_max a.high b.high }

-- the least layer that holds both
abbrev pub both : Layer → Layer → Layer
both a b = record { low = int_min a.low b.low; high = int_max a.high b.high }

-- a row's heights with its margin, `z - w` to `z + w`. At both ends of its second.
abbrev pub layer_of : Row → Layer
layer_of row = record {
  low = (extent_of (row.z -ℤ row.w) (row.vz -ℤ row.gw)).low;
  high = (extent_of (row.z +ℤ row.w) (row.vz +ℤ row.gw)).high;
}

-- a row's positions during its second, margin and heights
abbrev pub box_of : Row → BoundingBox
box_of row = record { x = extent_of row.x row.vx; y = extent_of row.y row.vy; margin = row.r +ℤ row.gr; layer = layer_of row }

-- `grown`, `grown_by`: a box with one row more, and with some more
abbrev pub grown : BoundingBox → Row → BoundingBox
grown a row = record {
  x = hull a.x (extent_of row.x row.vx);
  y = hull a.y (extent_of row.y row.vy);
  margin = int_max a.margin (row.r +ℤ row.gr);
  layer = both a.layer (layer_of row);
}

abbrev pub grown_by : BoundingBox → List Row → BoundingBox
grown_by a [] = a
grown_by a (row ∷ rows) = grown_by (grown a row) rows

-- the box of some rows
abbrev pub box_over : List Row → Row → BoundingBox
box_over rows first = grown_by (box_of first) rows

-- half the horizontal minimum, rounded up
abbrev pub half : Rules → ℤ
half rules = int_div (rules.sh +ℤ pos 1) (pos 2)

-- an extent, wider on each side
abbrev pub wider : Extent → ℤ → Extent
wider e by = record { low = e.low -ℤ by; high = e.high +ℤ by }
