-- No public contract names these: they are of private steps and of proofs.
use Rattle.std.specs.Prelude.{ℕ, pos, neg_ℤ}
use Rattle.mt_base.specs.Bounds.{IsWithin}
use Rattle.mt_pair.specs.declared.horizontal.Offset.{Offset}

-- each of the three is at most that great in size
pub record IsOffsetWithin (most : ℕ) (o : Offset) : Type 0 where
  pub x_within : IsWithin (neg_ℤ (pos most)) (pos most) o.x
  pub y_within : IsWithin (neg_ℤ (pos most)) (pos most) o.y
  pub width_within : IsWithin (neg_ℤ (pos most)) (pos most) o.width
