-- A bit for each item of a page.
use Rattle.std.proofs.Common.{◌≡◌, ◌≢◌, ◌≤◌, ◌<◌, ◌+◌, ◌-◌, ◌*◌, ◌/◌, ◌%◌, ◌^◌, ◌∙◌, ⊎_elim, ℕ, List, get_or, length, replicate, sym, ap, subst, w64, arith}
use Rattle.std.proofs.Math.ListN.{set}
use Rattle.std.proofs.Math.Pow.{pow_mono}
use Rattle.std.proofs.lemmas.Bool.{cases_eq, cases_lt}
use Rattle.std.proofs.lemmas.List.{get_or-replicate, get_or-set_other, get_or-set_same, get_or_past}
use Rattle.std.proofs.lemmas.Nat.{one_shl, pow-add, shr-shr}
use Rattle.std.proofs.lemmas.Nat.Bits.{bit_at-pow_same, bit_at-trailing_zeros, bit_at-zero, bit_at_cat_high, bit_at_cat_low}
use Rattle.std.specs.Int.{bit_at, trailing_zeros}
use Rattle.mt_meet.specs.Private.Marking.{HaveBits}
use Rattle.mt_meet.specs.declared.marked_parts.MarkedParts.{MarkedParts}

-- a byte with one bit
pub byte_bit : (n : ℕ) → n < 8 → bit_at (1 * 2 ^ n % 256) n ≡ 1
byte_bit n few = rw (one_shl n 8 few) (bit_at-pow_same n)

-- the bytes of the items, one more
module _ (marks : MarkedParts) (bytes : List ℕ) (at byte : ℕ) (within : at < length bytes) where
  pub bytes_with : (get_or marks.parts at 0 ≢ 0 → bit_at byte (at % 8) ≡ 1)
      → ((place : ℕ) → place < at → get_or marks.parts place 0 ≢ 0 → bit_at (get_or bytes place 0) (place % 8) ≡ 1)
      → (place : ℕ) → place < at + 1 → get_or marks.parts place 0 ≢ 0 → bit_at (get_or (set bytes at byte) place 0) (place % 8) ≡ 1
  bytes_with here before place below some = ⊎_elim
      (λ same. subst (λ (n : ℕ). bit_at (get_or (set bytes at byte) n 0) (n % 8) ≡ 1) (sym same)
      (subst (λ (n : ℕ). bit_at n (at % 8) ≡ 1) (sym (get_or-set_same bytes at byte 0 within)) (here (subst (λ (n : ℕ). get_or marks.parts n 0 ≢ 0) same some))))
      (λ other. subst (λ (n : ℕ). bit_at n (place % 8) ≡ 1) (sym (get_or-set_other bytes at place byte 0 other)) (before place (omega (arith, below, other)) some))
      (cases_eq place at)

-- eight bits more below those of the items after them
module _ (marks : MarkedParts) (bytes : List ℕ) (items group byte : ℕ) (early : group < 8) (byte_fits : byte < 256)
    (marked : (place : ℕ) → place < 64 → get_or marks.parts place 0 ≢ 0 → bit_at (get_or bytes place 0) (place % 8) ≡ 1)
    (byte_has : (place bit : ℕ) → 56 - 8 * group ≤ place → place < 56 - 8 * group + 8 → bit_at (get_or bytes place 0) bit ≡ 1 → bit_at byte bit ≡ 1) where
  pub items_with : ((place : ℕ) → 64 ≤ place + 8 * group → place < 64 → get_or marks.parts place 0 ≢ 0 → bit_at items (place + 8 * group - 64) ≡ 1)
      → (place : ℕ) → 64 ≤ place + 8 * (group + 1) → place < 64 → get_or marks.parts place 0 ≢ 0 → bit_at (256 * items + byte) (place + 8 * (group + 1) - 64) ≡ 1
  items_with before place late below some =
      let same : 256 * items + byte ≡ items * 2 ^ 8 + byte = omega arith in ⊎_elim
      (λ here.
      let low : place + 8 * (group + 1) - 64 ≡ place % 8 = omega (arith, late, here, early) in
      rw (same, bit_at_cat_low items 8 byte (place + 8 * (group + 1) - 64) (omega (arith, here)), low)
      (byte_has place (place % 8) (omega (arith, late, early)) (omega (arith, here, early)) (marked place below some)))
      (λ after.
      let high : place + 8 * (group + 1) - 64 - 8 ≡ place + 8 * group - 64 = omega (arith, after) in
      rw (same, bit_at_cat_high items 8 byte (place + 8 * (group + 1) - 64) byte_fits (omega (arith, after)), high) (before place after below some))
      (cases_lt (place + 8 * group) 64)

-- where all are 0, no part is marked
pub none_of_zeros : (marks : MarkedParts) → marks.parts ≡ replicate 64 0 → (place : ℕ) → get_or marks.parts place 0 ≡ 0
none_of_zeros marks none place = rw none (⊎_elim
    (λ within. get_or-replicate 64 place 0 0 within)
    (λ past. get_or_past (replicate 64 0) place 0 past)
    (cases_lt place 64))

-- without a marked part no bit is asked for
pub no_marks : (marks : MarkedParts) (items : ℕ) → marks.parts ≡ replicate 64 0 → HaveBits marks items
no_marks marks items none place some = absurd (some (none_of_zeros marks none place))

-- the bits of all
pub all_bits : (marks : MarkedParts) (items : ℕ) → length marks.parts ≡ 64 → ((place : ℕ) → place < 64 → get_or marks.parts place 0 ≢ 0 → bit_at items place ≡ 1)
    → HaveBits marks items
all_bits marks items long have place some = ⊎_elim
    (λ within. have place within some)
    (λ past. absurd (some (get_or_past marks.parts place 0 (omega (arith, long, past)))))
    (cases_lt place 64)

-- a byte more fits in eight bits more
pub byte_fits_below : (items group byte : ℕ) → byte < 256 → items < 2 ^ (8 * group) → 256 * items + byte < 2 ^ (8 * (group + 1))
byte_fits_below items group byte byte_fits fit =
    let more : 2 ^ (8 * (group + 1)) ≡ 2 ^ (8 * group) * 2 ^ 8 = (let sum : 8 * (group + 1) ≡ 8 * group + 8 = omega arith in rw sum (pow-add 2 (8 * group) 8)) in
    omega (arith, more, fit, byte_fits)

pub fits_in_64 : (items group byte : ℕ) → byte < 256 → group < 8 → items < 2 ^ (8 * group) → 256 * items + byte < 2 ^ 64
fits_in_64 items group byte byte_fits early fit =
    let least = byte_fits_below items group byte byte_fits fit in
    let most : 2 ^ (8 * (group + 1)) ≤ 2 ^ 64 = pow_mono {i = 8 * (group + 1)} {j = 64} (omega (arith, early)) in
    omega (arith, least, most)

-- between a place and the next bit no item has a marked part
pub none_till_bit : (marks : MarkedParts) (items from : ℕ) → HaveBits marks items → items < 2 ^ 64 → (place : ℕ) → from ≤ place
    → place < from + trailing_zeros w64 (items / 2 ^ from) → get_or marks.parts place 0 ≡ 0
none_till_bit marks items from have fit place late below =
    let bits = items / 2 ^ from in
    let zero : bit_at bits (place - from) ≡ 0 = ⊎_elim
    (λ some. (bit_at-trailing_zeros w64 bits some (omega (arith, fit))).2 (place - from) (omega (arith, late, below)))
    (λ none. let is : bits ≡ 0 = omega (arith, none) in rw is (bit_at-zero (place - from)))
    (cases_lt 0 bits) in
    let on : from + (place - from) ≡ place = omega (arith, late) in
    let same : bit_at items place ≡ bit_at bits (place - from) = ap (λ (n : ℕ). items / 2 ^ n % 2) (sym on) ∙ ap (λ (n : ℕ). n % 2) (sym (shr-shr items from (place - from))) in
    ⊎_elim
    (λ none. none)
    (λ some. let one = have place some in absurd (omega (arith, one, same, zero)))
    (cases_eq (get_or marks.parts place 0) 0)
