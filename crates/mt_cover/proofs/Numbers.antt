-- Numbers that pass through their bits, 64 or 32 of them, and stay within bounds.
use Rattle.std.proofs.Common.{◌≡◌, ◌∙◌, ℕ, ◌^◌, ◌<◌, ℤ, pos, neg_ℤ, ◌+ℤ◌, ◌-ℤ◌, ◌*ℤ◌, ◌≤ℤ◌, FitsSigned, w32, w64, arith, lit<}
use Rattle.std.proofs.lemmas.Int.{clamps, ints, to_z-of_z}
use Rattle.std.specs.Int.{int_max, int_min}
use Rattle.mt_base.specs.Bounds.{IsKeptOver, IsWithin}
use Rattle.mt_ring.proofs.Sizes.{Abs, fits_64}
use Rattle.mt_track.proofs.Bits.{IsNear, as_it_is, fits_32, in_32, in_64, narrow_is, near_32, reach_is}
use Rattle.mt_cover.specs.declared.bounding_box.Extent.{Extent}
use Rattle.mt_cover.specs.Private.InPlane.{IsExtentInPlane, IsExtentNearPlane}

pub IsWithin-min : (low high y z : ℤ) → IsWithin low high y → IsWithin low high z → IsWithin low high (int_min y z)
IsWithin-min low high y z g h = record { least = omega (arith, ints, clamps, g.least, h.least); most = omega (arith, ints, clamps, g.most, h.most) }

pub IsWithin-max : (low high y z : ℤ) → IsWithin low high y → IsWithin low high z → IsWithin low high (int_max y z)
IsWithin-max low high y z g h = record { least = omega (arith, ints, clamps, g.least, h.least); most = omega (arith, ints, clamps, g.most, h.most) }

abbrev pub InPlane : ℤ → Type 0
InPlane z = IsWithin (neg_ℤ (pos 3686400)) (pos 3686400) z

pub plane_near : (z : ℤ) → InPlane z → IsNear z
plane_near z h = record { least = omega (arith, ints, h.least); most = omega (arith, ints, h.most) }

pub plane_is : (z : ℤ) → InPlane z → in_32 z ≡ z
plane_is z h = near_32 z (plane_near z h)

pub margin_is : (z : ℤ) → IsWithin (pos 0) (pos 72000) z → in_64 z ≡ z
margin_is z h = as_it_is (pos 0) (pos 72000) z h (omega (arith, ints)) (omega (arith, ints))

-- the greater of two margins, as the code has it
pub margin_max : (y z v : ℤ) → IsWithin (pos 0) (pos 72000) y → IsWithin (pos 0) (pos 72000) z → v ≡ int_max (in_64 y) (in_64 z)
    → (in_64 v ≡ int_max y z) × IsWithin (pos 0) (pos 72000) (in_64 v)
margin_max y z v y_kept z_kept is =
    let plain : v ≡ int_max y z = rw (margin_is y y_kept, margin_is z z_kept) at is in
    let kept : IsWithin (pos 0) (pos 72000) v = rw plain (IsWithin-max (pos 0) (pos 72000) y z y_kept z_kept) in
    let same = margin_is v kept in
    (same ∙ plain, rw same kept)

pub half_is : (z : ℤ) → IsWithin (pos 1) (pos 36000) z → in_64 z ≡ z
half_is z h = as_it_is (pos 1) (pos 36000) z h (omega (arith, ints)) (omega (arith, ints))

-- a margin and half of the minimum, as the code has their sum
pub sum_is : (m k : ℤ) → IsWithin (pos 0) (pos 72000) m → IsWithin (pos 1) (pos 36000) k → in_64 (in_64 m +ℤ in_64 k) ≡ m +ℤ k
sum_is m k m_kept k_kept =
    let a = margin_is m m_kept in
    let b = half_is k k_kept in
    let s : IsWithin (pos 1) (pos 108000) (m +ℤ k) =
    record { least = omega (arith, ints, m_kept.least, k_kept.least); most = omega (arith, ints, m_kept.most, k_kept.most) } in
    rw (a, b) (as_it_is (pos 1) (pos 108000) (m +ℤ k) s (omega (arith, ints)) (omega (arith, ints)))

pub IsExtentInPlane-32 : (low high : ℤ) → InPlane low → InPlane high → low ≤ℤ high → IsExtentInPlane (record { low = in_32 low; high = in_32 high })
IsExtentInPlane-32 low high a b c = rw (plane_is low a, plane_is high b) (record { low = a; high = b; ordered = c })

pub min_below_max : (y z : ℤ) → int_min y z ≤ℤ int_max y z
min_below_max y z = omega (arith, ints, clamps)

pub hull_ordered : (a b c d : ℤ) → a ≤ℤ b → int_min a c ≤ℤ int_max b d
hull_ordered a b c d h = omega (arith, ints, clamps)

pub fits_reach : (z : ℤ) → IsNear z → FitsSigned w64 z
fits_reach z h = let size : Abs 9000000 z = record { low = h.least; high = h.most } in fits_64 size (lit< tt)

-- what lies between two coordinates
far_off : (z gain : ℤ) → InPlane z → InPlane (z +ℤ gain) → IsNear gain
far_off z gain a b = record { least = omega (arith, ints, a.most, b.least); most = omega (arith, ints, a.least, b.most) }

-- the lesser and the greater of a coordinate and what it is after a gain, as the code has them
pub lesser_is : (z gain v : ℤ) → InPlane z → InPlane (z +ℤ gain) → v ≡ int_min (in_64 z) (in_64 (in_64 z +ℤ in_64 gain))
    → (v ≡ int_min z (z +ℤ gain)) × InPlane v
lesser_is z gain v a b is =
    let plain : v ≡ int_min z (z +ℤ gain) =
    rw (reach_is z (plane_near z a), reach_is gain (far_off z gain a b), reach_is (z +ℤ gain) (plane_near (z +ℤ gain) b)) at is in
    (plain, rw plain (IsWithin-min _ _ z (z +ℤ gain) a b))

pub greater_is : (z gain v : ℤ) → InPlane z → InPlane (z +ℤ gain) → v ≡ int_max (in_64 z) (in_64 (in_64 z +ℤ in_64 gain))
    → (v ≡ int_max z (z +ℤ gain)) × InPlane v
greater_is z gain v a b is =
    let plain : v ≡ int_max z (z +ℤ gain) =
    rw (reach_is z (plane_near z a), reach_is gain (far_off z gain a b), reach_is (z +ℤ gain) (plane_near (z +ℤ gain) b)) at is in
    (plain, rw plain (IsWithin-max _ _ z (z +ℤ gain) a b))

-- an extent that is made wider, as the code has it
pub record IsWider (low high by v : ℤ) : Type 0 where
  pub low_is : in_32 (in_32 low -ℤ in_32 v) ≡ low -ℤ by
  pub high_is : in_32 (in_32 high +ℤ in_32 v) ≡ high +ℤ by
  pub low_fits : FitsSigned w32 (in_32 low -ℤ in_32 v)
  pub high_fits : FitsSigned w32 (in_32 high +ℤ in_32 v)
  pub kept : IsExtentNearPlane (record { low = low -ℤ by; high = high +ℤ by })

pub by_near : (z : ℤ) → IsWithin (pos 0) (pos 108000) z → IsNear z
by_near z h = record { least = omega (arith, ints, h.least); most = omega (arith, ints, h.most) }

pub wider_is : (e : Extent) (by v : ℤ) → IsExtentInPlane e → IsWithin (pos 0) (pos 108000) by → v ≡ in_64 by → IsWider e.low e.high by v
wider_is e by v kept by_kept is =
    let l = plane_is e.low kept.low in
    let h = plane_is e.high kept.high in
    let b = narrow_is by v (by_near by by_kept) is in
    let low : IsNear (e.low -ℤ by) = record {
      least = omega (arith, ints, kept.low.least, by_kept.most);
      most = omega (arith, ints, kept.low.most, by_kept.least);
    } in
    let high : IsNear (e.high +ℤ by) = record {
      least = omega (arith, ints, kept.high.least, by_kept.least);
      most = omega (arith, ints, kept.high.most, by_kept.most);
    } in
    record {
      low_is = rw (l, b) (near_32 (e.low -ℤ by) low);
      high_is = rw (h, b) (near_32 (e.high +ℤ by) high);
      low_fits = rw (l, b) (fits_32 (e.low -ℤ by) low);
      high_fits = rw (h, b) (fits_32 (e.high +ℤ by) high);
      kept = record { low = low; high = high; ordered = omega (arith, ints, kept.ordered, by_kept.least) };
    }

-- a count of seconds, as the code has it
pub count_is : (n : ℕ) (z : ℤ) → n < 2 ^ 32 → z ≡ pos n → in_64 z ≡ pos n
count_is n z few is =
    let size : Abs 4294967296 z = record { low = omega (arith, ints, is); high = omega (arith, ints, is, few) } in
    to_z-of_z w64 z (fits_64 size (lit< tt)) ∙ is

-- a value, its gain, and what it is after so many seconds, as the code has them
pub record AreGained (z v n : ℤ) : Type 0 where
  pub z_is : in_64 z ≡ z
  pub v_is : in_64 v ≡ v
  pub far_is : in_64 (v *ℤ n) ≡ v *ℤ n
  pub end_is : in_64 (z +ℤ v *ℤ n) ≡ z +ℤ v *ℤ n
  pub far_fits : FitsSigned w64 (v *ℤ n)
  pub end_fits : FitsSigned w64 (z +ℤ v *ℤ n)

pub gained : (low high least most z v : ℤ) (n : ℕ) → neg_ℤ (pos 3686400) ≤ℤ low → high ≤ℤ pos 3686400 → neg_ℤ (pos 10000) ≤ℤ least → most ≤ℤ pos 10000
    → IsKeptOver low high least most z v n → AreGained z v (pos n)
gained low high least most z v n above below slow fast kept =
    let value = kept.value in
    let growth = kept.growth in
    let end = kept.end in
    let far = far_off z (v *ℤ pos n) (record { least = omega (arith, ints, above, value.least); most = omega (arith, ints, below, value.most) })
    (record { least = omega (arith, ints, above, end.least); most = omega (arith, ints, below, end.most) }) in
    let after : IsNear (z +ℤ v *ℤ pos n) =
    record { least = omega (arith, ints, above, end.least); most = omega (arith, ints, below, end.most) } in
    record {
      z_is = reach_is z (record { least = omega (arith, ints, above, value.least); most = omega (arith, ints, below, value.most) });
      v_is = reach_is v (record { least = omega (arith, ints, slow, growth.least); most = omega (arith, ints, fast, growth.most) });
      far_is = reach_is (v *ℤ pos n) far;
      end_is = reach_is (z +ℤ v *ℤ pos n) after;
      far_fits = fits_reach (v *ℤ pos n) far;
      end_fits = fits_reach (z +ℤ v *ℤ pos n) after;
    }

pub gained_in_plane : (z v : ℤ) (n : ℕ) → IsKeptOver (neg_ℤ (pos 3686400)) (pos 3686400) (neg_ℤ (pos 1000)) (pos 1000) z v n → AreGained z v (pos n)
gained_in_plane z v n kept = gained _ _ _ _ z v n (omega (arith, ints)) (omega (arith, ints)) (omega (arith, ints)) (omega (arith, ints)) kept

pub gained_margin : (r g : ℤ) (n : ℕ) → IsKeptOver (pos 0) (pos 72000) (pos 0) (pos 1000) r g n → AreGained r g (pos n)
gained_margin r g n kept = gained _ _ _ _ r g n (omega (arith, ints)) (omega (arith, ints)) (omega (arith, ints)) (omega (arith, ints)) kept

-- heights, with a margin
abbrev pub IsHigh : ℤ → Type 0
IsHigh z = IsWithin (neg_ℤ (pos 600000)) (pos 4200000) z

pub high_near : (z : ℤ) → IsHigh z → IsNear z
high_near z h = record { least = omega (arith, ints, h.least); most = omega (arith, ints, h.most) }

pub high_is : (z : ℤ) → IsHigh z → in_32 z ≡ z
high_is z h = near_32 z (high_near z h)

pub IsHigh-32 : (z : ℤ) → IsHigh z → IsHigh (in_32 z)
IsHigh-32 z h = rw (high_is z h) h
