-- The least number of seconds of a leg.
use Rattle.std.proofs.Common.{◌≡◌, ℕ, zero, suc, ◌+◌, ◌*◌, ◌/◌, ◌%◌, ◌<◌, ◌≤◌, ⊎_elim, Bool, true, false, ℤ, pos, negsuc, unsigned_abs, nat_le, min, ap, sym, arith, refl, mul-le-mul, le_refl, Fits, w32, w64, ◌^◌, if◌then◌else◌}
use Rattle.std.specs.Int.{div_ceil}
use Rattle.std.proofs.lemmas.Bool.{cases_lt}
use Rattle.std.proofs.lemmas.Int.{ints}
use Rattle.std.proofs.Math.Nat.{div-le_self}
use Rattle.mt_base.specs.Bounds.{IsWithin}
use Rattle.mt_base.specs.Predictor.{least_below, seconds_of, square_of}
use Rattle.mt_predict.specs.Private.Manners.{IsAcross}

least_below_is : (n t : ℕ) (test : ℕ → Bool) → t ≤ n → (t < n → test t ≡ true) → ((s : ℕ) → s < t → test s ≡ false) → least_below n test ≡ t
least_below_is zero t test within passes fails = omega arith
least_below_is (suc n) zero test within passes fails = rw (passes (omega arith)) refl
least_below_is (suc n) (suc t) test within passes fails =
    rw (fails zero (omega arith)) (ap suc (least_below_is n t (λ s. test (suc s)) (omega arith) (λ below. passes (omega arith)) (λ s below. fails (suc s) (omega arith))))

-- the least number passes where the bound does
pub least_below_passes : (n : ℕ) (test : ℕ → Bool) → test n ≡ true → test (least_below n test) ≡ true
least_below_passes zero test at_bound = at_bound
least_below_passes (suc n) test at_bound =
    elim (test zero) as (λ b. test zero ≡ b → test (if b then zero else suc (least_below n (λ t. test (suc t)))) ≡ true) [
      | true ↦ λ e. e
      | false ↦ λ e. least_below_passes n (λ t. test (suc t)) at_bound
    ] refl

-- the bound of a duration is enough
pub bound_enough : (far g : ℕ) → 1 ≤ g → far ≤ far * far * g * g
bound_enough zero g fast = omega arith
bound_enough (suc far) zero fast = absurd (omega arith)
bound_enough (suc far) (suc g) fast = omega arith

pub square_is : (dx dy : ℤ) → square_of dx dy ≡ unsigned_abs dx * unsigned_abs dx + unsigned_abs dy * unsigned_abs dy
square_is (pos a) (pos b) = refl
square_is (pos a) (negsuc b) = refl
square_is (negsuc a) (pos b) = refl
square_is (negsuc a) (negsuc b) = refl

-- a quotient, rounded up
ceil_enough : (q r g s : ℕ) → g * q + r ≡ s → r < g → s ≤ (q + min 1 r) * g
ceil_enough q zero g s is below = let e : q + min 1 zero ≡ q = omega arith in rw e (omega arith)
ceil_enough q (suc r) g s is below = let e : q + min 1 (suc r) ≡ q + 1 = omega arith in rw e (omega arith)

ceil_least : (q r g s t : ℕ) → g * q + r ≡ s → 0 < g → t < q + min 1 r → t * g < s
ceil_least q zero g s t is some below = let h : suc t ≤ q = omega arith in let p = mul-le-mul h (le_refl g) in omega (arith, p)
ceil_least q (suc r) g s t is some below = let h : t ≤ q = omega arith in let p = mul-le-mul h (le_refl g) in omega (arith, p)

squares : (x y : ℕ) → x ≤ y → x * x ≤ y * y
squares x y h = mul-le-mul h h

-- A duration that is enough, and each lesser one is not, is that of the leg.
duration_is : (far g t : ℕ) → 1 ≤ g → far ≤ t * t * g * g → ((s : ℕ) → s < t → s * s * g * g < far)
    → least_below far (λ s. nat_le far (s * s * g * g)) ≡ t
duration_is far g t fast enough least =
    least_below_is far t (λ s. nat_le far (s * s * g * g)) within (λ below. grind arith) (λ s below. let h = least s below in grind arith)
  where
    within : t ≤ far
    within = ⊎_elim (λ above. absurd (let h = least far above in omega (arith, h, bound_enough far g fast))) (λ h. h) (cases_lt far t)

pub regroup : (a b : ℕ) → (a * b) * (a * b) ≡ a * a * b * b
regroup a b = omega arith

pub seconds_is : (dx dy : ℤ) (e n g s : ℕ) → e ≡ unsigned_abs dx → n ≡ unsigned_abs dy → 1 ≤ g → e * e + n * n ≤ s * s
    → ((t : ℕ) → t < s → t * t < e * e + n * n) → div_ceil s g ≡ seconds_of dx dy g
unfolding seconds_of
seconds_is dx dy e n g s east north fast enough least =
    let far : square_of dx dy ≡ e * e + n * n = rw (east, north) (square_is dx dy) in
    rw far (sym (duration_is (e * e + n * n) g (s / g + min 1 (s % g)) fast reached (λ t below. short t (ceil_least (s / g) (s % g) g s t (omega arith) (omega arith) below))))
  where
    reached : e * e + n * n ≤ (s / g + min 1 (s % g)) * (s / g + min 1 (s % g)) * g * g
    reached =
        let up = ceil_enough (s / g) (s % g) g s (omega arith) (omega arith) in
        let p = squares s ((s / g + min 1 (s % g)) * g) up in
        let q : ((s / g + min 1 (s % g)) * g) * ((s / g + min 1 (s % g)) * g) ≡ (s / g + min 1 (s % g)) * (s / g + min 1 (s % g)) * g * g = regroup (s / g + min 1 (s % g)) g in
        omega (arith, p, q)

    short : (t : ℕ) → t * g < s → t * t * g * g < e * e + n * n
    short t below = let h = least (t * g) below in omega (arith, h, regroup t g)

-- the squares of a leg's sides are small
pub square_fits : (e : ℕ) → e ≤ 7372800 → Fits w64 (e * e)
square_fits e small = omega (arith, mul-le-mul small small)

pub squares_fit : (e n : ℕ) → e ≤ 7372800 → n ≤ 7372800 → Fits w64 (e * e + n * n)
squares_fit e n east north = omega (arith, mul-le-mul east east, mul-le-mul north north)

pub squares_small : (e n : ℕ) → e ≤ 7372800 → n ≤ 7372800 → e * e + n * n < 2 ^ 47
squares_small e n east north = omega (arith, mul-le-mul east east, mul-le-mul north north)

-- a root of the square of a leg is small
pub root_small : (e n s : ℕ) → e ≤ 7372800 → n ≤ 7372800 → ((t : ℕ) → t < s → t * t < e * e + n * n) → s ≤ 16777216
root_small e n s east north least = ⊎_elim
    (λ above. absurd (let h = least 16777216 above in omega (arith, h, mul-le-mul east east, mul-le-mul north north)))
    (λ h. h) (cases_lt 16777216 s)

pub size_across : (z : ℤ) (n : ℕ) → IsAcross z → n ≡ unsigned_abs z → n ≤ 7372800
size_across (pos a) n kept is = omega (arith, ints, kept.most)
size_across (negsuc a) n kept is = omega (arith, ints, kept.least)

pub speed_some : (z : ℤ) (n : ℕ) → IsWithin (pos 1) (pos 1000) z → n ≡ unsigned_abs z → 1 ≤ n
speed_some (pos a) n kept is = omega (arith, ints, kept.least)
speed_some (negsuc a) n kept is = absurd (omega (arith, ints, kept.least))

pub seconds_fit : (s g t : ℕ) → t ≡ div_ceil s g → s ≤ 16777216 → Fits w32 t
seconds_fit s g t is small = omega (arith, is, div-le_self s g)
