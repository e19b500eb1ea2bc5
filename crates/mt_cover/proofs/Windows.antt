-- A slice that holds those of a window: the first, the one in the middle, and the last.
use Rattle.std.proofs.Common.{◌≡◌, ◌≤◌, ◌<◌, ◌+◌, ◌-◌, ◌*◌, ◌/◌, ℕ, min, max, List, length, get_or, ⊎_elim, subst, sym, ◌∙◌, arith}
use Rattle.std.proofs.lemmas.Bool.{cases_eq}
use Rattle.std.proofs.lemmas.Int.{ints}
use Rattle.std.proofs.lemmas.List.{get_or_default}
use Rattle.mt_cover.specs.declared.sliced.Slice.{Slice}
use Rattle.mt_cover.specs.Sliced.{AreSlices, HaveWindow, Holds, HoldsWindow, Sliced, no_slice}

-- where the window begins and ends
pub record IsAlong (s : Sliced) (window begin end : ℕ) : Type 0 where
  pub begun : s.from ≤ begin
  pub some : begin < end
  pub within : end ≤ s.to
  pub few : end ≤ begin + 256

pub is_along : (s : Sliced) (window begin end : ℕ) → HaveWindow s window → begin ≡ max s.from (256 * window) → end ≡ min s.to (256 * window + 256) → IsAlong s window begin end
is_along s window begin end have begin_is end_is = record {
  begun = omega (arith, begin_is);
  some = omega (arith, begin_is, end_is, have.begun, have.within, have.some);
  within = omega (arith, end_is);
  few = omega (arith, begin_is, end_is);
}

-- what holds an element of a list
holds_element : (wide own : Slice) (list : List Slice) (i : ℕ) → i < length list → own ≡ get_or list i own → Holds wide own → Holds wide (get_or list i no_slice)
holds_element wide own list i below is holds = subst (Holds wide) (is ∙ get_or_default list i own no_slice below) holds

holds_on : (a b c : Slice) → Holds a b → Holds b c → Holds a c
holds_on a b c h g = record {
  x = record { low = omega (arith, ints, h.x.low, g.x.low); high = omega (arith, ints, h.x.high, g.x.high) };
  y = record { low = omega (arith, ints, h.y.low, g.y.low); high = omega (arith, ints, h.y.high, g.y.high) };
  low = omega (arith, ints, h.low, g.low);
  high = omega (arith, ints, h.high, g.high);
}

-- the slice of each second is the first, the one in the middle, or the last
pub holds_window : (s : Sliced) (window begin end first middle last : ℕ) (wide front a b c : Slice) → AreSlices s → HaveWindow s window
    → begin ≡ max s.from (256 * window) → end ≡ min s.to (256 * window + 256) → first ≡ (begin - s.from) / 128 → last ≡ (end - 1 - s.from) / 128
    → middle ≡ (first + last) / 2 → a ≡ get_or s.list first a → b ≡ get_or s.list middle b → c ≡ get_or s.list last c
    → Holds front a → Holds front b → Holds wide front → Holds wide c → HoldsWindow s window wide
holds_window s window begin end first middle last wide front a b c kept have begin_is end_is first_is last_is middle_is a_is b_is c_is on_a on_b on_front on_c = λ k here same.
    let along = is_along s window begin end have begin_is end_is in
    let late : begin ≤ k = omega (arith, begin_is, here.begun, same) in
    let early : k < end = omega (arith, end_is, here.within, same) in
    let from_first : first ≤ (k - s.from) / 128 = omega (arith, first_is, late, along.begun) in
    let to_last : (k - s.from) / 128 ≤ last = omega (arith, last_is, late, early, along.begun) in
    let few : last ≤ first + 2 = omega (arith, first_is, last_is, along.begun, along.some, along.few) in
    let inside : last < length s.list = omega (arith, kept.number, last_is, along.begun, along.some, along.within) in
    ⊎_elim
    (λ at_first. subst (λ (i : ℕ). Holds wide (get_or s.list i no_slice)) (sym at_first)
    (holds_element wide a s.list first (omega (arith, inside, from_first, to_last)) a_is (holds_on wide front a on_front on_a)))
    (λ later. ⊎_elim
    (λ at_last. subst (λ (i : ℕ). Holds wide (get_or s.list i no_slice)) (sym at_last) (holds_element wide c s.list last inside c_is on_c))
    (λ between. let place : middle ≡ (k - s.from) / 128 = omega (arith, middle_is, from_first, to_last, few, later, between) in
    subst (λ (i : ℕ). Holds wide (get_or s.list i no_slice)) place
    (holds_element wide b s.list middle (omega (arith, inside, middle_is, from_first, to_last)) b_is (holds_on wide front b on_front on_b)))
    (cases_eq ((k - s.from) / 128) last))
    (cases_eq ((k - s.from) / 128) first)
