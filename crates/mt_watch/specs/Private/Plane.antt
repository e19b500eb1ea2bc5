-- No public contract names these: they are of private steps and of proofs.
-- Vectors of the plane, and their products.
use Rattle.std.specs.Prelude.{ℤ, pos, neg_ℤ, ◌+ℤ◌, ◌-ℤ◌, ◌*ℤ◌, Bool, int_lt, ◌&&◌}
use Rattle.std.specs.Ordering.{int_eq}
use Rattle.mt_base.specs.Bounds.{IsWithin}
use Rattle.mt_base.specs.Verdict.{off_x, off_y}
use Rattle.mt_base.specs.declared.flight.Report.{Report}
use Rattle.mt_base.specs.declared.row.Row.{Row}
use Rattle.mt_watch.specs.declared.vector.Vector.{Vector}

-- `offset_to_report`, `velocity_of`: from the row's position to the reported one, and what the row's position gains in a second
abbrev pub offset_to_report : Row → Report → Vector
offset_to_report row report = record { x = off_x row report; y = off_y row report }

abbrev pub velocity_of : Row → Vector
velocity_of row = record { x = row.vx; y = row.vy }

-- `IsSmall`, `is_zero`: both numbers are at most the width of the plane in size; both are 0
pub record IsSmall (v : Vector) : Type 0 where
  pub x_within : IsWithin (neg_ℤ (pos 7372800)) (pos 7372800) v.x
  pub y_within : IsWithin (neg_ℤ (pos 7372800)) (pos 7372800) v.y

abbrev pub is_zero : Vector → Bool
is_zero v = int_eq v.x (pos 0) && int_eq v.y (pos 0)

-- `cross_product`, `dot`: the cross and the dot product
abbrev pub cross_product : Vector → Vector → ℤ
cross_product v w = v.x *ℤ w.y -ℤ v.y *ℤ w.x

abbrev pub dot : Vector → Vector → ℤ
dot v w = v.x *ℤ w.x +ℤ v.y *ℤ w.y

-- a product of two vectors is beyond a tolerance times the length of the second. The squares of the two are compared.
abbrev pub is_beyond : ℤ → ℤ → ℤ → Bool
is_beyond tolerance product squared = int_lt (tolerance *ℤ tolerance *ℤ squared) (product *ℤ product)

-- at most the size that a product of two vectors has
abbrev pub IsProduct : ℤ → Type 0
IsProduct z = IsWithin (neg_ℤ (pos 108716359680000)) (pos 108716359680000) z
