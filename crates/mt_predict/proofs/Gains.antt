-- The gain of a second of a leg: what the code makes of it, and the sum of those that are left.
use Rattle.std.proofs.Common.{◌≡◌, ℕ, ◌<◌, ◌≤◌, true, false, ℤ, pos, negsuc, ◌+ℤ◌, unsigned_abs, nat_lt, arith, refl, to_z, of_z, w64, ◌^◌}
use Rattle.std.specs.Int.{int_div_euclid, int_rem_euclid}
use Rattle.std.proofs.Math.Nat.{div-le_self}
use Rattle.std.proofs.lemmas.Int.{ints, to_z-of_z}
use Rattle.mt_ring.proofs.Sizes.{abs_lit, fits_64}
use Rattle.mt_base.specs.Predictor.{gain_with}
use Rattle.mt_predict.specs.Private.Manners.{IsAcross}
use Rattle.mt_predict.proofs.Casts.{as_is}

pub gain_more : (total : ℤ) (seconds n : ℕ) → n < unsigned_abs (int_rem_euclid total (pos seconds)) → gain_with total seconds n ≡ int_div_euclid total (pos seconds) +ℤ pos 1
unfolding gain_with
gain_more total seconds n below = let e : nat_lt n (unsigned_abs (int_rem_euclid total (pos seconds))) ≡ true = grind arith in rw e refl

pub gain_less : (total : ℤ) (seconds n : ℕ) → unsigned_abs (int_rem_euclid total (pos seconds)) ≤ n → gain_with total seconds n ≡ int_div_euclid total (pos seconds)
unfolding gain_with
gain_less total seconds n above = let e : nat_lt n (unsigned_abs (int_rem_euclid total (pos seconds))) ≡ false = grind arith in rw e refl

pub quotient_small : (total : ℤ) (seconds : ℕ) → IsAcross total → IsAcross (int_div_euclid total (pos seconds))
quotient_small (pos a) seconds across = omega (arith, ints, across.least, across.most, div-le_self a seconds)
quotient_small (negsuc a) seconds across = omega (arith, ints, across.least, across.most, div-le_self a seconds)

remainder_below : (total : ℤ) (seconds : ℕ) → 0 < seconds → unsigned_abs (int_rem_euclid total (pos seconds)) < seconds
remainder_below (pos a) seconds some = omega arith
remainder_below (negsuc a) seconds some = omega arith

remainder_natural : (total : ℤ) (seconds : ℕ) → int_rem_euclid total (pos seconds) ≡ pos (unsigned_abs (int_rem_euclid total (pos seconds)))
remainder_natural (pos a) seconds = refl
remainder_natural (negsuc a) seconds = refl

-- a number of 32 bits, as one of 64, is read back as it is
seconds_as_is : (n : ℕ) → n < 2 ^ 32 → to_z w64 (of_z w64 (pos n)) ≡ pos n
seconds_as_is n small = to_z-of_z w64 (pos n) (fits_64 (abs_lit n) (omega arith))

-- the code's quotient and remainder
pub quotient_is : (total : ℤ) (seconds : ℕ) (from each : ℤ) → IsAcross total → seconds < 2 ^ 32 → from ≡ pos seconds
    → each ≡ int_div_euclid (to_z w64 (of_z w64 total)) (to_z w64 (of_z w64 from)) → each ≡ int_div_euclid total (pos seconds)
quotient_is total seconds from each kept small from_is is =
    rw (from_is, seconds_as_is seconds small, as_is total (omega (arith, ints, kept.least)) (omega (arith, ints, kept.most))) at is

pub rest_is : (total : ℤ) (seconds : ℕ) (from left : ℤ) (rest : ℕ) → IsAcross total → 0 < seconds → seconds < 2 ^ 32 → from ≡ pos seconds
    → left ≡ int_rem_euclid (to_z w64 (of_z w64 total)) (to_z w64 (of_z w64 from)) → rest ≡ unsigned_abs (to_z w64 (of_z w64 left))
    → rest ≡ unsigned_abs (int_rem_euclid total (pos seconds))
rest_is total seconds from left rest kept some small from_is left_is is =
    let e = rw (from_is, seconds_as_is seconds small, as_is total (omega (arith, ints, kept.least)) (omega (arith, ints, kept.most))) at left_is in
    let below = remainder_below total seconds some in
    let back : to_z w64 (of_z w64 left) ≡ int_rem_euclid total (pos seconds) =
    rw (e, remainder_natural total seconds) (seconds_as_is (unsigned_abs (int_rem_euclid total (pos seconds))) (omega arith)) in
    rw back at is

-- what the code answers
pub gain_is_more : (total : ℤ) (seconds n : ℕ) (each : ℤ) (rest : ℕ) → IsAcross total → each ≡ int_div_euclid total (pos seconds)
    → rest ≡ unsigned_abs (int_rem_euclid total (pos seconds)) → n < rest
    → to_z w64 (of_z w64 (to_z w64 (of_z w64 each) +ℤ pos 1)) ≡ gain_with total seconds n
gain_is_more total seconds n each rest kept each_is rest_is below =
    let small = quotient_small total seconds kept in
    rw (gain_more total seconds n (omega arith), each_is, as_is (int_div_euclid total (pos seconds)) (omega (arith, ints, small.least)) (omega (arith, ints, small.most)))
    (as_is (int_div_euclid total (pos seconds) +ℤ pos 1) (omega (arith, ints, small.least)) (omega (arith, ints, small.most)))

pub gain_is_less : (total : ℤ) (seconds n : ℕ) (each : ℤ) (rest : ℕ) → IsAcross total → each ≡ int_div_euclid total (pos seconds)
    → rest ≡ unsigned_abs (int_rem_euclid total (pos seconds)) → rest ≤ n → to_z w64 (of_z w64 each) ≡ gain_with total seconds n
gain_is_less total seconds n each rest kept each_is rest_is above =
    let small = quotient_small total seconds kept in
    rw (gain_less total seconds n (omega arith), each_is) (as_is (int_div_euclid total (pos seconds)) (omega (arith, ints, small.least)) (omega (arith, ints, small.most)))
