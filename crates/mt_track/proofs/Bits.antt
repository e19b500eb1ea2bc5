-- Numbers that pass through their bits, 64 or 32 of them, and stay.
use Rattle.std.proofs.Common.{◌≡◌, ◌∙◌, ℤ, pos, neg_ℤ, ◌≤ℤ◌, FitsSigned, to_z, of_z, w32, w64, arith, lit<}
use Rattle.std.proofs.lemmas.Int.{fits_signed_from_abs, ints, to_z-of_z}
use Rattle.mt_base.specs.Bounds.{IsWithin}
use Rattle.mt_ring.proofs.Sizes.{Abs, abs_to, fits_64}

abbrev pub in_64 : ℤ → ℤ
in_64 z = to_z w64 (of_z w64 z)

abbrev pub in_32 : ℤ → ℤ
in_32 z = to_z w32 (of_z w32 z)

pub as_it_is : (low high : ℤ) (z : ℤ) → IsWithin low high z → neg_ℤ (pos 9000000) ≤ℤ low → high ≤ℤ pos 9000000 → in_64 z ≡ z
as_it_is low high z h a b =
    let size : Abs 9000000 z = record { low = omega (arith, ints, h.least, a); high = omega (arith, ints, h.most, b) } in
    to_z-of_z w64 z (fits_64 size (lit< tt))

-- what 32 bits hold
abbrev pub IsNear : ℤ → Type 0
IsNear z = IsWithin (neg_ℤ (pos 9000000)) (pos 9000000) z

pub fits_32 : (z : ℤ) → IsNear z → FitsSigned w32 z
fits_32 z h = fits_signed_from_abs w32 z (let k = abs_to 9000000 z (record { low = h.least; high = h.most }) in omega (arith, k))

pub near_32 : (z : ℤ) → IsNear z → in_32 z ≡ z
near_32 z h = to_z-of_z w32 z (fits_32 z h)

pub reach_is : (z : ℤ) → IsNear z → in_64 z ≡ z
reach_is z h = as_it_is (neg_ℤ (pos 9000000)) (pos 9000000) z h (omega (arith, ints)) (omega (arith, ints))

-- a number that the code makes narrow
pub narrow_is : (z v : ℤ) → IsNear z → v ≡ in_64 z → in_32 v ≡ z
narrow_is z v h is = let plain : v ≡ z = is ∙ reach_is z h in rw plain (near_32 z h)

pub narrow_near : (z : ℤ) → IsNear z → IsNear (in_64 z)
narrow_near z h = rw (reach_is z h) h

-- what a row keeps over some seconds is near
abbrev pub IsFew : ℤ → ℤ → Type 0
IsFew low high = (neg_ℤ (pos 9000000) ≤ℤ low) × (high ≤ℤ pos 9000000)

pub within_near : (low high z : ℤ) → IsFew low high → IsWithin low high z → IsNear z
within_near low high z few h = record { least = omega (arith, ints, few.0, h.least); most = omega (arith, ints, few.1, h.most) }
