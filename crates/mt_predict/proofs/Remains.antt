-- What the seconds that are left of a leg still gain, and how much a second can gain.
use Rattle.std.proofs.Common.{◌≡◌, ℕ, zero, suc, ◌*◌, ◌/◌, ◌%◌, ◌<◌, ◌≤◌, ⊎_elim, ℤ, pos, negsuc, neg_ℤ, ◌+ℤ◌, ◌-ℤ◌, ◌*ℤ◌, unsigned_abs, nat_le, true, min, arith, mul-le-mul, le_refl}
use Rattle.std.specs.Int.{int_div_euclid, int_rem_euclid}
use Rattle.std.proofs.Math.Nat.{div-le_of_le-mul}
use Rattle.std.proofs.lemmas.Bool.{cases_lt, le-leb}
use Rattle.std.proofs.lemmas.Int.{ints}
use Rattle.mt_base.specs.Bounds.{IsWithin}
use Rattle.mt_base.specs.Predictor.{gain_with, seconds_of, square_of}
use Rattle.mt_predict.proofs.Durations.{bound_enough, least_below_passes, square_is}
use Rattle.mt_predict.proofs.Gains.{gain_less, gain_more}

-- the last n seconds of a leg gain so much together
abbrev pub remain : ℤ → ℕ → ℕ → ℤ
remain total seconds n = int_div_euclid total (pos seconds) *ℤ pos n +ℤ pos (min n (unsigned_abs (int_rem_euclid total (pos seconds))))

one_more : (q : ℤ) (n r : ℕ) → n < r → (q +ℤ pos 1) +ℤ (q *ℤ pos n +ℤ pos (min n r)) ≡ q *ℤ pos (suc n) +ℤ pos (min (suc n) r)
one_more q n r below = let e : q *ℤ pos (suc n) ≡ q *ℤ pos n +ℤ q = omega (arith, ints) in rw e (omega (arith, ints))

none_more : (q : ℤ) (n r : ℕ) → r ≤ n → q +ℤ (q *ℤ pos n +ℤ pos (min n r)) ≡ q *ℤ pos (suc n) +ℤ pos (min (suc n) r)
none_more q n r above = let e : q *ℤ pos (suc n) ≡ q *ℤ pos n +ℤ q = omega (arith, ints) in rw e (omega (arith, ints))

pub gain_remain : (total : ℤ) (seconds n : ℕ) → gain_with total seconds n +ℤ remain total seconds n ≡ remain total seconds (suc n)
gain_remain total seconds n = ⊎_elim
    (λ below. rw (gain_more total seconds n below) (one_more (int_div_euclid total (pos seconds)) n (unsigned_abs (int_rem_euclid total (pos seconds))) below))
    (λ above. rw (gain_less total seconds n above) (none_more (int_div_euclid total (pos seconds)) n (unsigned_abs (int_rem_euclid total (pos seconds))) above))
    (cases_lt n (unsigned_abs (int_rem_euclid total (pos seconds))))

-- all seconds together gain the whole, and none gain nothing
pub remain_whole : (total : ℤ) (seconds g : ℕ) → unsigned_abs total ≤ seconds * g → remain total seconds seconds ≡ total
remain_whole (pos a) zero g size = omega (arith, ints)
remain_whole (negsuc a) zero g size = absurd (omega (arith, ints))
remain_whole (pos a) (suc s) g size = omega (arith, ints)
remain_whole (negsuc a) (suc s) g size = omega (arith, ints)

pub remain_none : (total : ℤ) (seconds : ℕ) → remain total seconds 0 ≡ pos 0
remain_none total seconds = omega (arith, ints)

-- between its ends a leg keeps within the bounds of both
pub between : (low high x to total : ℤ) (seconds n : ℕ) → n ≤ seconds → 0 < seconds → IsWithin low high to → IsWithin low high (to -ℤ total)
    → x +ℤ remain total seconds n ≡ to → IsWithin low high x
between low high x to (pos a) seconds n within some end begin is =
    let p = mul-le-mul (le_refl (a / seconds)) within in
    record { least = omega (arith, ints, p, is, end, begin); most = omega (arith, ints, p, is, end, begin) }
between low high x to (negsuc a) seconds n within some end begin is =
    let p = mul-le-mul (le_refl (a / seconds)) within in
    record { least = omega (arith, ints, p, is, end, begin); most = omega (arith, ints, p, is, end, begin) }

-- no second gains more than the speed
rest_room : (a seconds n g : ℕ) → n < a % seconds → a ≤ seconds * g → a / seconds < g
rest_room a seconds n g more size = ⊎_elim (λ h. h) (λ h. absurd (let p = mul-le-mul (le_refl seconds) h in omega (arith, p))) (cases_lt (a / seconds) g)

whole_room : (a seconds n g : ℕ) → n < seconds → suc a ≤ seconds * g → a / seconds < g
whole_room a seconds n g below size = ⊎_elim (λ h. h) (λ h. absurd (let p = mul-le-mul (le_refl seconds) h in omega (arith, p))) (cases_lt (a / seconds) g)

pub gain_size : (total : ℤ) (seconds n g : ℕ) → n < seconds → unsigned_abs total ≤ seconds * g → IsWithin (neg_ℤ (pos g)) (pos g) (gain_with total seconds n)
gain_size (pos a) seconds n g below size = ⊎_elim
    (λ more. rw (gain_more (pos a) seconds n more) (let h = rest_room a seconds n g more size in record { least = omega (arith, ints); most = omega (arith, ints, h) }))
    (λ less. rw (gain_less (pos a) seconds n less) (let h : a / seconds ≤ g = div-le_of_le-mul seconds size in record { least = omega (arith, ints); most = omega (arith, ints, h) }))
    (cases_lt n (a % seconds))
gain_size (negsuc a) seconds n g below size = let room = whole_room a seconds n g below size in ⊎_elim
    (λ more. rw (gain_more (negsuc a) seconds n more) (record { least = omega (arith, ints, room); most = omega (arith, ints, room) }))
    (λ less. rw (gain_less (negsuc a) seconds n less) (record { least = omega (arith, ints, room); most = omega (arith, ints, room) }))
    (cases_lt n (unsigned_abs (int_rem_euclid (negsuc a) (pos seconds))))

-- a leg's seconds are enough for both directions
root : (b c : ℕ) → b * b ≤ c * c → b ≤ c
root b c h = ⊎_elim (λ above. absurd (let p : suc c ≤ b = omega arith in let q = mul-le-mul p p in omega (arith, q))) (λ k. k) (cases_lt c b)

pub enough_from : (a b : ℕ) → nat_le a b ≡ true → a ≤ b
enough_from a b passes = grind arith

seconds_enough : (dx dy : ℤ) (g : ℕ) → 1 ≤ g → square_of dx dy ≤ seconds_of dx dy g * seconds_of dx dy g * g * g
unfolding seconds_of
seconds_enough dx dy g fast =
    let passes = least_below_passes (square_of dx dy) (λ t. nat_le (square_of dx dy) (t * t * g * g)) (le-leb _ _ (bound_enough (square_of dx dy) g fast)) in
    enough_from _ _ passes

regroup : (a b : ℕ) → (a * b) * (a * b) ≡ a * a * b * b
regroup a b = omega arith

pub east_size : (dx dy : ℤ) (g : ℕ) → 1 ≤ g → unsigned_abs dx ≤ seconds_of dx dy g * g
east_size dx dy g fast =
    let h = seconds_enough dx dy g fast in
    root (unsigned_abs dx) (seconds_of dx dy g * g) (omega (arith, h, square_is dx dy, regroup (seconds_of dx dy g) g))

pub north_size : (dx dy : ℤ) (g : ℕ) → 1 ≤ g → unsigned_abs dy ≤ seconds_of dx dy g * g
north_size dx dy g fast =
    let h = seconds_enough dx dy g fast in
    root (unsigned_abs dy) (seconds_of dx dy g * g) (omega (arith, h, square_is dx dy, regroup (seconds_of dx dy g) g))
