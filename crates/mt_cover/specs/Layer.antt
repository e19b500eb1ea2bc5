-- Heights from a least to a greatest one.
use Rattle.std.specs.Prelude.{pos, neg_ℤ, ◌+ℤ◌, ◌-ℤ◌, ◌≤ℤ◌}
use Rattle.mt_base.specs.declared.row.Row.{Row}
use Rattle.mt_base.specs.Bounds.{IsWithin}
use Rattle.mt_base.specs.Trajectory.{next_row}
use Rattle.mt_cover.specs.declared.layer.Layer.{Layer}

-- a layer's bounds are small enough to add
pub record IsLayerKept (layer : Layer) : Type 0 where
  pub low : IsWithin (neg_ℤ (pos 600000)) (pos 4200000) layer.low
  pub high : IsWithin (neg_ℤ (pos 600000)) (pos 4200000) layer.high

-- a layer holds the height of a row at the start of its second, with the vertical margin, which isn't below 0, below and above
pub record HoldsHeight (layer : Layer) (row : Row) : Type 0 where
  pub margin : pos 0 ≤ℤ row.w
  pub low : layer.low ≤ℤ (row.z -ℤ row.w)
  pub high : (row.z +ℤ row.w) ≤ℤ layer.high

-- a row is in a layer during its whole second, at whose end it is the next row
pub record IsInLayer (layer : Layer) (row : Row) : Type 0 where
  pub start : HoldsHeight layer row
  pub end : HoldsHeight layer (next_row row)
