-- No public contract names these: they are of private steps and of proofs.
use Rattle.std.specs.Prelude.{ℤ, pos, neg_ℤ}
use Rattle.mt_base.specs.declared.place.Leg.{Leg}
use Rattle.mt_base.specs.Bounds.{IsWithin}

-- how far two places of the plane can be apart in one direction
abbrev pub IsAcross : ℤ → Type 0
IsAcross d = IsWithin (neg_ℤ (pos 7372800)) (pos 7372800) d

-- A leg between two places of the plane.
pub record IsBoundedLeg (leg : Leg) : Type 0 where
  pub east : IsAcross leg.dx
  pub north : IsAcross leg.dy
