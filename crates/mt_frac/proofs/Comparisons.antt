-- What a test of an order of numbers says.
use borrow.Author.Differences.{true_is_lt}
use lib.Signed.{le_z, lt_z}
use mir.Syntax.{w128}
use mir.Val.{to_z, of_z}
use Rattle.std.proofs.Common.{◌≡◌, ℤ, pos, FitsSigned, ◌≤ℤ◌, ◌<ℤ◌, Bool, true, false, arith, sym}
use Rattle.std.proofs.lemmas.Int.{ints, to_z-of_z}
use Rattle.std.specs.declared.cmp.Ordering.{Ordering}
use Rattle.std.specs.Ordering.{int_cmp, is_lt}

pub lt_yes : (x y : ℤ) (o : Ordering) (r : Bool) → o ≡ int_cmp x y → r ≡ is_lt o → r ≡ true → x <ℤ y
lt_yes x y o r e f t = grind (arith, ints)

pub lt_no : (x y : ℤ) (o : Ordering) (r : Bool) → o ≡ int_cmp x y → r ≡ is_lt o → r ≡ false → y ≤ℤ x
lt_no x y o r e f t = grind (arith, ints)

-- what a test of a number that was stored says of its value
pub ge_yes : (z v : ℤ) → z ≡ v → FitsSigned w128 v → le_z (pos 0) (to_z w128 (of_z w128 z)) ≡ true → pos 0 ≤ℤ v
ge_yes z v e f t = let is = rw (e, to_z-of_z w128 v f) at t in omega (arith, ints)

pub ge_no : (z v : ℤ) → z ≡ v → FitsSigned w128 v → le_z (pos 0) (to_z w128 (of_z w128 z)) ≡ false → v <ℤ pos 0
ge_no z v e f t = let is = rw (e, to_z-of_z w128 v f) at t in omega (arith, ints)

pub le_yes : (z v : ℤ) → z ≡ v → FitsSigned w128 v → le_z (to_z w128 (of_z w128 z)) (pos 0) ≡ true → v ≤ℤ pos 0
le_yes z v e f t = let is = rw (e, to_z-of_z w128 v f) at t in omega (arith, ints)

pub le_no : (z v : ℤ) → z ≡ v → FitsSigned w128 v → le_z (to_z w128 (of_z w128 z)) (pos 0) ≡ false → pos 0 <ℤ v
le_no z v e f t = let is = rw (e, to_z-of_z w128 v f) at t in omega (arith, ints)

pub gt_yes : (z v : ℤ) → z ≡ v → FitsSigned w128 v → lt_z (pos 0) (to_z w128 (of_z w128 z)) ≡ true → pos 0 <ℤ v
gt_yes z v e f t = let is = rw (e, to_z-of_z w128 v f) at t in omega (arith, ints)

pub gt_from : (z v : ℤ) → z ≡ v → FitsSigned w128 v → pos 0 <ℤ v → lt_z (pos 0) (to_z w128 (of_z w128 z)) ≡ true
gt_from z v e f h = rw (e, to_z-of_z w128 v f) (sym (true_is_lt (pos 0) v (omega (arith, ints))))

-- what is above or below 0 isn't 0
pub not_0_above : (z : ℤ) → pos 0 <ℤ z → ¬ (z ≡ pos 0)
not_0_above z h is = absurd (omega (arith, ints))

pub not_0_below : (z : ℤ) → z <ℤ pos 0 → ¬ (z ≡ pos 0)
not_0_below z h is = absurd (omega (arith, ints))
