-- A row of the code that holds the values moved on is the row that many seconds later.
use Rattle.std.proofs.Common.{◌≡◌, ℕ, ℤ, pos, neg_ℤ, ◌+ℤ◌, ◌*ℤ◌, ◌≤ℤ◌, arith, to_z, of_z, w64}
use Rattle.std.proofs.lemmas.Int.{ints, to_z-of_z}
use Rattle.mt_ring.proofs.Sizes.{fits_64}
use Rattle.mt_base.specs.declared.row.Row.{Row}
use Rattle.mt_base.specs.Bounds.{IsBoundedOver, IsKeptOver}
use Rattle.mt_track.specs.Rows.{row_after}

-- a small value is read back from its bits as it is
as_is : (z : ℤ) → neg_ℤ (pos 3686400) ≤ℤ z → z ≤ℤ pos 3686400 → to_z w64 (of_z w64 z) ≡ z
as_is z least most = to_z-of_z w64 z (fits_64 (record { low = least; high = most }) (omega arith))

-- what moving a value by its gain gives, each number by its bits
abbrev pub IsMoved : ℤ → ℤ → ℕ → ℤ → Type 0
IsMoved z gain n v = v ≡ to_z w64 (of_z w64 z) +ℤ to_z w64 (of_z w64 gain) *ℤ pos n

gain_as_is : (low high least most z gain : ℤ) (n : ℕ) → neg_ℤ (pos 3686400) ≤ℤ least → most ≤ℤ pos 3686400 → IsKeptOver low high least most z gain n
    → to_z w64 (of_z w64 gain) ≡ gain
gain_as_is low high least most z gain n above below kept = as_is gain (omega (arith, ints)) (omega (arith, ints))

value_as_is : (low high least most z gain : ℤ) (n : ℕ) (v : ℤ) → neg_ℤ (pos 3686400) ≤ℤ low → high ≤ℤ pos 3686400 → neg_ℤ (pos 3686400) ≤ℤ least
    → most ≤ℤ pos 3686400 → IsKeptOver low high least most z gain n → IsMoved z gain n v → to_z w64 (of_z w64 v) ≡ z +ℤ gain *ℤ pos n
value_as_is low high least most z gain n v above below slowest fastest kept is =
    let end = kept.end in
    let moved : v ≡ z +ℤ gain *ℤ pos n =
    rw (← as_is z (omega (arith, ints)) (omega (arith, ints)), ← gain_as_is low high least most z gain n slowest fastest kept) is in
    rw moved (as_is (z +ℤ gain *ℤ pos n) (omega (arith, ints)) (omega (arith, ints)))

-- the row that the code makes: with new values, and each number by its bits
abbrev pub in_bits : Row → ℤ → ℤ → ℤ → ℤ → ℤ → Row
in_bits a x y z r w = record a {
  x = to_z w64 (of_z w64 x);
  y = to_z w64 (of_z w64 y);
  z = to_z w64 (of_z w64 z);
  r = to_z w64 (of_z w64 r);
  w = to_z w64 (of_z w64 w);
  vx = to_z w64 (of_z w64 a.vx);
  vy = to_z w64 (of_z w64 a.vy);
  vz = to_z w64 (of_z w64 a.vz);
  gr = to_z w64 (of_z w64 a.gr);
  gw = to_z w64 (of_z w64 a.gw);
}

pub later_is : (a : Row) (n : ℕ) → IsBoundedOver a n → (x y z r w : ℤ) → IsMoved a.x a.vx n x → IsMoved a.y a.vy n y → IsMoved a.z a.vz n z
    → IsMoved a.r a.gr n r → IsMoved a.w a.gw n w → in_bits a x y z r w ≡ row_after a n
later_is a n kept x y z r w x_is y_is z_is r_is w_is = λ i. record a {
  x = value_as_is _ _ _ _ a.x a.vx n x (omega (arith, ints)) (omega (arith, ints)) (omega (arith, ints)) (omega (arith, ints)) kept.x x_is i;
  y = value_as_is _ _ _ _ a.y a.vy n y (omega (arith, ints)) (omega (arith, ints)) (omega (arith, ints)) (omega (arith, ints)) kept.y y_is i;
  z = value_as_is _ _ _ _ a.z a.vz n z (omega (arith, ints)) (omega (arith, ints)) (omega (arith, ints)) (omega (arith, ints)) kept.z z_is i;
  r = value_as_is _ _ _ _ a.r a.gr n r (omega (arith, ints)) (omega (arith, ints)) (omega (arith, ints)) (omega (arith, ints)) kept.r r_is i;
  w = value_as_is _ _ _ _ a.w a.gw n w (omega (arith, ints)) (omega (arith, ints)) (omega (arith, ints)) (omega (arith, ints)) kept.w w_is i;
  vx = gain_as_is _ _ _ _ a.x a.vx n (omega (arith, ints)) (omega (arith, ints)) kept.x i;
  vy = gain_as_is _ _ _ _ a.y a.vy n (omega (arith, ints)) (omega (arith, ints)) kept.y i;
  vz = gain_as_is _ _ _ _ a.z a.vz n (omega (arith, ints)) (omega (arith, ints)) kept.z i;
  gr = gain_as_is _ _ _ _ a.r a.gr n (omega (arith, ints)) (omega (arith, ints)) kept.r i;
  gw = gain_as_is _ _ _ _ a.w a.gw n (omega (arith, ints)) (omega (arith, ints)) kept.w i;
}
