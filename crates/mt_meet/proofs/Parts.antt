-- The parts of a subject's time, and the bits that mark them.
use Rattle.mt_meet.specs.Private.Boxing.{IsPartMarked}
use Rattle.std.proofs.Common.{◌≡◌, ◌<◌, ◌≤◌, ◌+◌, ◌-◌, ◌*◌, ◌/◌, ◌%◌, ◌^◌, ⊎_elim, ℕ, get_or, length, ap, sym, subst, ◌∙◌, w16, arith}
use Rattle.std.proofs.Math.ListN.{set}
use Rattle.std.proofs.Math.Nat.{div-eq_of_lt, div-lt_iff_lt-mul, lt-mul-div-succ, mul-div-le, mul-le-mul_left}
use Rattle.std.proofs.Math.Pow.{pow_mono}
use Rattle.std.proofs.lemmas.Bool.{cases_eq, cases_lt}
use Rattle.std.proofs.lemmas.List.{get_or-set_other, get_or-set_same}
use Rattle.std.proofs.lemmas.Nat.{leading_length}
use Rattle.std.proofs.lemmas.Nat.Bits.{bit_at-lt, bit_at-pow_same, bit_at-trailing_zeros, bit_at-zero, bit_at_or}
use Rattle.std.specs.Int.{bit_at, leading_zeros, trailing_zeros}
use Rattle.std.specs.Int.RustNames.{bit_or}
use Rattle.mt_cover.specs.Sliced.{Have, HaveWindow, Sliced}
use Rattle.mt_meet.specs.Searching.{part_at, windows_a_part}
use Rattle.mt_meet.specs.declared.marked_parts.MarkedParts.{MarkedParts}

pub no_bit : (i : ℕ) → bit_at 0 i ≡ 1 → ⊥
no_bit i one = let zero = bit_at-zero i in omega (arith, one, zero)

some_bit : (parts p : ℕ) → bit_at parts p ≡ 1 → 0 < parts
some_bit parts p one = ⊎_elim (λ some. some) (λ none. let zero : parts ≡ 0 = omega (arith, none) in absurd (no_bit p (subst (λ (n : ℕ). bit_at n p ≡ 1) zero one)))
    (cases_lt 0 parts)

-- the lowest bit is no later than one that is 1, and the highest no earlier
lowest : (parts p : ℕ) → parts < 2 ^ 16 → bit_at parts p ≡ 1 → trailing_zeros w16 parts ≤ p
lowest parts p fits one = ⊎_elim
    (λ below. let zero = (bit_at-trailing_zeros w16 parts (some_bit parts p one) fits).2 p below in absurd (omega (arith, zero, one)))
    (λ on. on)
    (cases_lt p (trailing_zeros w16 parts))

highest : (parts p : ℕ) → parts < 2 ^ 16 → bit_at parts p ≡ 1 → p < 16 - leading_zeros w16 parts
highest parts p fits one =
    let long = leading_length 16 parts fits in ⊎_elim
    (λ below. omega (arith, below, long.1))
    (λ on.
    let more : 2 ^ long.0 ≤ 2 ^ p = pow_mono on in
    let none : parts / 2 ^ p ≡ 0 = div-eq_of_lt (omega (arith, long.2, more)) in
    absurd (omega (arith, none, one)))
    (cases_lt p long.0)

-- the seconds of some parts lie between those of the lowest and of the highest one
pub between : (s : Sliced) (k parts each begin end : ℕ) → Have s k → parts < 2 ^ 16 → bit_at parts (part_at s k) ≡ 1 → each ≡ windows_a_part s
    → begin ≡ each * trailing_zeros w16 parts → end ≡ each * (16 - leading_zeros w16 parts)
    → (256 * (s.from / 256 + begin) ≤ k) × (k < 256 * (s.from / 256 + end))
between s k parts each begin end have fits one each_is begin_is end_is =
    let some : 0 < each = omega (arith, each_is, have.begun, have.within) in
    let at : bit_at parts ((k / 256 - s.from / 256) / each) ≡ 1 = rw each_is one in
    let early = mul-le-mul_left each (lowest parts ((k / 256 - s.from / 256) / each) fits at) in
    let late = mul-le-mul_left each (highest parts ((k / 256 - s.from / 256) / each) fits at) in
    let least = mul-div-le (k / 256 - s.from / 256) each in
    let most = lt-mul-div-succ (k / 256 - s.from / 256) some in
    (omega (arith, early, least, begin_is, have.begun), omega (arith, late, most, end_is, have.begun))

-- there are parts for all windows
pub few_parts : (s : Sliced) (window each : ℕ) → HaveWindow s window → each ≡ windows_a_part s → (0 < each) × ((window - s.from / 256) / each < 16)
few_parts s window each have each_is =
    let some : 0 < each = omega (arith, each_is, have.begun, have.within) in
    (some, (div-lt_iff_lt-mul some).1 (omega (arith, each_is, have.begun, have.within)))

pub shifted_bit : (n : ℕ) → n < 16 → bit_at (1 * 2 ^ n % 65536) n ≡ 1
shifted_bit n few =
    let less : 2 ^ n ≤ 2 ^ 15 = pow_mono {i = n} {j = 15} (omega (arith, few)) in
    let same : 1 * 2 ^ n % 65536 ≡ 2 ^ n = omega (arith, less) in
    rw same (bit_at-pow_same n)

-- a bit that one of two numbers has
pub or_left : (a b i : ℕ) → bit_at a i ≡ 1 → bit_at (bit_or a b) i ≡ 1
or_left a b i one = let other = bit_at-lt b i in bit_at_or a b i ∙ (omega (arith, one, other))

pub or_right : (a b i : ℕ) → bit_at b i ≡ 1 → bit_at (bit_or a b) i ≡ 1
or_right a b i one = let other = bit_at-lt a i in bit_at_or a b i ∙ (omega (arith, one, other))

-- what was marked stays so, and what is added is marked
module _ (marks : MarkedParts) (place parts : ℕ) where
  abbrev after : MarkedParts
  after = record { parts = set marks.parts place (bit_or (get_or marks.parts place 0) parts) }

  pub marks_kept : place < length marks.parts → (other part : ℕ) → IsPartMarked marks other part → IsPartMarked after other part
  marks_kept within other part one = ⊎_elim
      (λ same. subst (λ (n : ℕ). bit_at n part ≡ 1)
      (sym (ap (λ (m : ℕ). get_or (set marks.parts place (bit_or (get_or marks.parts place 0) parts)) m 0) same ∙ get_or-set_same marks.parts place (bit_or (get_or marks.parts place 0) parts) 0 within))
      (or_left (get_or marks.parts place 0) parts part (subst (λ (m : ℕ). bit_at (get_or marks.parts m 0) part ≡ 1) same one)))
      (λ apart. subst (λ (n : ℕ). bit_at n part ≡ 1) (sym (get_or-set_other marks.parts place other (bit_or (get_or marks.parts place 0) parts) 0 apart)) one)
      (cases_eq other place)

  pub marks_added : place < length marks.parts → (part : ℕ) → bit_at parts part ≡ 1 → IsPartMarked after place part
  marks_added within part one = subst (λ (n : ℕ). bit_at n part ≡ 1) (sym (get_or-set_same marks.parts place (bit_or (get_or marks.parts place 0) parts) 0 within))
      (or_right (get_or marks.parts place 0) parts part one)
