-- No public contract names these: they are of private steps and of proofs.
-- Bounds of boxes: in the plane, or not far from it.
use Rattle.std.specs.Prelude.{pos, neg_ℤ, ◌≤ℤ◌}
use Rattle.mt_base.specs.Bounds.{IsWithin}
use Rattle.mt_cover.specs.Layer.{IsLayerKept}
use Rattle.mt_cover.specs.declared.bounding_box.BoundingBox.{BoundingBox}
use Rattle.mt_cover.specs.declared.bounding_box.Extent.{Extent}

-- both ends are in the plane, and in order
pub record IsExtentInPlane (e : Extent) : Type 0 where
  pub low : IsWithin (neg_ℤ (pos 3686400)) (pos 3686400) e.low
  pub high : IsWithin (neg_ℤ (pos 3686400)) (pos 3686400) e.high
  pub ordered : e.low ≤ℤ e.high

-- the box of some rows of a trajectory
pub record IsBoxInPlane (a : BoundingBox) : Type 0 where
  pub x : IsExtentInPlane a.x
  pub y : IsExtentInPlane a.y
  pub margin : IsWithin (pos 0) (pos 72000) a.margin
  pub layer : IsLayerKept a.layer

-- both ends are in the plane or not far from it, and in order
pub record IsExtentNearPlane (e : Extent) : Type 0 where
  pub low : IsWithin (neg_ℤ (pos 9000000)) (pos 9000000) e.low
  pub high : IsWithin (neg_ℤ (pos 9000000)) (pos 9000000) e.high
  pub ordered : e.low ≤ℤ e.high
