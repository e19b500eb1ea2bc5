-- Items of 128 in a row by their marks.
use Rattle.std.proofs.Common.{◌≡◌, ◌≤◌, ◌<◌, ◌+◌, ◌-◌, ◌*◌, ◌/◌, ◌%◌, ⊎_elim, ℕ, List, None, Option, get_or, min, refl, subst, sym, arith}
use Rattle.std.proofs.lemmas.Bool.{cases_eq}
use Rattle.std.specs.Int.{bit_at}
use Rattle.mt_cover.specs.Sliced.{Sliced}
use Rattle.mt_meet.specs.Meeting.{Asked, IsMetAt, MeetNone}
use Rattle.mt_meet.specs.Searching.{MeetOnlyMarked, MeetsOnlyIn, item_at, part_at}
use Rattle.mt_meet.specs.declared.marked_parts.MarkedParts.{MarkedParts}
use Rattle.mt_meet.proofs.Parts.{no_bit}

-- without a marked part an item doesn't meet
pub unmarked : (asked : Asked) (table : List (Option Sliced)) (item parts : ℕ) → parts ≡ 0 → MeetsOnlyIn asked table item parts
    → IsMetAt asked.rules asked.sliced table item None
unmarked asked table item parts none only theirs k there meet = no_bit (part_at asked.sliced k) (subst (λ (n : ℕ). bit_at n (part_at asked.sliced k) ≡ 1) none (only theirs k there meet))

module _ (asked : Asked) (table : List (Option Sliced)) (block : ℕ) (even odd : MarkedParts) (even_kept : MeetOnlyMarked asked table (2 * block) even)
    (odd_kept : MeetOnlyMarked asked table (2 * block + 1) odd) where
  even_at : (pair item : ℕ) → pair < 64 → item ≡ 128 * block + 2 * pair → MeetsOnlyIn asked table item (get_or even.parts pair 0)
  even_at pair item within is = subst (λ (n : ℕ). MeetsOnlyIn asked table n (get_or even.parts pair 0)) (let same : item_at (2 * block) pair ≡ item = omega (arith, is) in same)
      (even_kept pair within)

  odd_at : (pair item : ℕ) → pair < 64 → item ≡ 128 * block + 2 * pair + 1 → MeetsOnlyIn asked table item (get_or odd.parts pair 0)
  odd_at pair item within is = subst (λ (n : ℕ). MeetsOnlyIn asked table n (get_or odd.parts pair 0)) (let same : item_at (2 * block + 1) pair ≡ item = omega (arith, is) in same)
      (odd_kept pair within)

  pub at_place : (place parts : ℕ) → place < 128 → (place % 2 ≡ 0 → parts ≡ get_or even.parts (place / 2) 0) → (place % 2 ≡ 1 → parts ≡ get_or odd.parts (place / 2) 0)
      → MeetsOnlyIn asked table (128 * block + place) parts
  at_place place parts within even_is odd_is = ⊎_elim
      (λ is_even. rw (even_is is_even) (even_at (place / 2) (128 * block + place) (omega (arith, within)) (omega (arith, is_even))))
      (λ is_odd. let one : place % 2 ≡ 1 = omega (arith, is_odd) in
      rw (odd_is one) (odd_at (place / 2) (128 * block + place) (omega (arith, within)) (omega (arith, one))))
      (cases_eq (place % 2) 0)

  -- none of the items before the next one with a mark meets
  pub none_to_mark : (from to : ℕ) → ((place : ℕ) → from ≤ place → place < to → place % 2 ≡ 0 → get_or even.parts (place / 2) 0 ≡ 0)
      → ((place : ℕ) → from ≤ place → place < to → place % 2 ≡ 1 → get_or odd.parts (place / 2) 0 ≡ 0)
      → MeetNone asked.rules asked.sliced table (128 * block + from) (128 * block + min to 128)
  none_to_mark from to even_none odd_none = λ item late below.
      let place = item - 128 * block in
      let on : from ≤ place = omega (arith, late) in
      let before : place < to = omega (arith, late, below) in
      let same : 128 * block + place ≡ item = omega (arith, late) in
      unmarked asked table item 0 refl (subst (λ (n : ℕ). MeetsOnlyIn asked table n 0) same
      (at_place place 0 (omega (arith, late, below)) (λ is_even. sym (even_none place on before is_even)) (λ is_odd. sym (odd_none place on before is_odd))))
