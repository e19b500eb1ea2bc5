-- Sizes of sums and products, and what fits a signed type of 128 or 64 bits.
--
-- For a function with sums and products that must not overflow: state a record of `FitsSigned` facts for all of them in a
-- file of its own, prove it once from `Abs` facts of the parameters, and answer each of the function's goals by
-- `let s = sizes .. in grind (arith, to_z-of_z)`.
use Rattle.std.proofs.Common.{ℕ, ◌+◌, ◌*◌, ◌≤◌, ◌<◌, ◌^◌, ℤ, pos, negsuc, ◌+ℤ◌, ◌-ℤ◌, ◌*ℤ◌, neg_ℤ, ◌≤ℤ◌, unsigned_abs, FitsSigned, arith, mul-le-mul}
use Rattle.std.proofs.lemmas.Int.{ints, unsigned_abs-mul, fits_signed_from_abs}
use mir.Syntax.{w64, w128}

-- z is at most m in size
pub record Abs (m : ℕ) (z : ℤ) : Type 0 where
  pub low : neg_ℤ (pos m) ≤ℤ z
  pub high : z ≤ℤ pos m

-- to and from the size as a natural number
pub abs_from : (m : ℕ) (z : ℤ) → unsigned_abs z ≤ m → Abs m z
abs_from m (pos n) h = record { low = omega (arith, ints); high = omega (arith, ints) }
abs_from m (negsuc n) h = record { low = omega (arith, ints); high = omega (arith, ints) }

pub abs_to : (m : ℕ) (z : ℤ) → Abs m z → unsigned_abs z ≤ m
abs_to m (pos n) h = omega (arith, ints, h.low, h.high)
abs_to m (negsuc n) h = omega (arith, ints, h.low, h.high)

-- of a numeral, a sum, a difference, a negation and a product
pub abs_lit : (m : ℕ) → Abs m (pos m)
abs_lit m = record { low = omega (arith, ints); high = omega (arith, ints) }

pub abs_add : {m n : ℕ} {a b : ℤ} → Abs m a → Abs n b → Abs (m + n) (a +ℤ b)
abs_add {m} {n} {a} {b} f g = omega (arith, ints)

pub abs_sub : {m n : ℕ} {a b : ℤ} → Abs m a → Abs n b → Abs (m + n) (a -ℤ b)
abs_sub {m} {n} {a} {b} f g = omega (arith, ints)

pub abs_mul : {m n : ℕ} {a b : ℤ} → Abs m a → Abs n b → Abs (m * n) (a *ℤ b)
abs_mul {m} {n} {a} {b} f g =
    let p = mul-le-mul (abs_to m a f) (abs_to n b g) in
    abs_from (m * n) (a *ℤ b) (omega (arith, unsigned_abs-mul a b))

-- a greater bound
pub abs_weaken : {m n : ℕ} {a : ℤ} → Abs m a → m ≤ n → Abs n a
abs_weaken {m} {n} {a} f h = omega (arith, ints)

-- what is small enough fits
pub fits_128 : {m : ℕ} {z : ℤ} → Abs m z → m < 2 ^ 127 → FitsSigned w128 z
fits_128 {m} {z} f h = fits_signed_from_abs w128 z (let k = abs_to m z f in omega arith)

pub fits_64 : {m : ℕ} {z : ℤ} → Abs m z → m < 2 ^ 63 → FitsSigned w64 z
fits_64 {m} {z} f h = fits_signed_from_abs w64 z (let k = abs_to m z f in omega arith)
