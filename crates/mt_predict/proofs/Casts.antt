-- Numbers that are read back from their bits are what they were.
use Rattle.std.proofs.Common.{◌≡◌, ℕ, ◌*◌, ◌≤◌, ℤ, pos, neg_ℤ, ◌-ℤ◌, ◌*ℤ◌, ◌≤ℤ◌, FitsSigned, arith, to_z, of_z, w64}
use Rattle.std.specs.Int.{int_min, int_max}
use Rattle.std.proofs.lemmas.Int.{clamps, ints, to_z-of_z}
use Rattle.mt_ring.proofs.Sizes.{fits_64}
use Rattle.mt_base.specs.Bounds.{IsWithin}

-- a small number fits, and is read back as it is
pub small_fits : (z : ℤ) → neg_ℤ (pos 100000000) ≤ℤ z → z ≤ℤ pos 100000000 → FitsSigned w64 z
small_fits z least most = fits_64 (record { low = least; high = most }) (omega arith)

pub as_is : (z : ℤ) → neg_ℤ (pos 100000000) ≤ℤ z → z ≤ℤ pos 100000000 → to_z w64 (of_z w64 z) ≡ z
as_is z least most = to_z-of_z w64 z (small_fits z least most)

-- what the code's least and greatest of a climb give
pub climb_is : (level : ℕ) (z climb descent f m r : ℤ) → level ≤ 600 → IsWithin (pos 0) (pos 3600000) z → IsWithin (pos 1) (pos 10000) climb
    → IsWithin (pos 1) (pos 10000) descent → f ≡ pos level
    → m ≡ int_min (to_z w64 (of_z w64 (to_z w64 (of_z w64 (pos 6000 *ℤ to_z w64 (of_z w64 f))) -ℤ to_z w64 (of_z w64 z)))) (to_z w64 (of_z w64 climb))
    → r ≡ int_max (to_z w64 (of_z w64 m)) (to_z w64 (of_z w64 (pos 0 -ℤ to_z w64 (of_z w64 descent))))
    → to_z w64 (of_z w64 r) ≡ int_max (int_min (pos (6000 * level) -ℤ z) climb) (neg_ℤ descent)
climb_is level z climb descent f m r low height up down f_is m_is r_is = omega (arith, ints, clamps, f_is, m_is, r_is, height, up, down)

-- and of a margin's gain
pub growth_is : (gain most value r : ℤ) → IsWithin (pos 0) (pos 10000) gain → IsWithin (pos 0) (pos 600000) most → IsWithin (pos 0) (pos 600000) value
    → r ≡ int_min (to_z w64 (of_z w64 gain)) (to_z w64 (of_z w64 (to_z w64 (of_z w64 most) -ℤ to_z w64 (of_z w64 value))))
    → to_z w64 (of_z w64 r) ≡ int_min gain (most -ℤ value)
growth_is gain most value r g m v is = omega (arith, ints, clamps, is, g, m, v)
