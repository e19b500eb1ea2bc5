-- Where the last 0x0A of a buffer stands.
use Rattle.std.proofs.Common.{◌≡◌, ◌<◌, ◌≤◌, ◌↔◌, ℕ, ◌+◌, ◌-◌, List, length, get_or, drop, length-take, slice_range, sym, ◌∙◌, ap, arith, inl, inr}
use Rattle.std.specs.Prelude.{Contains, IsTrue, nat_lt}
use Rattle.std.proofs.lemmas.Bool.{cases_lt, lt-ltb, ltb-true}
use Rattle.std.proofs.lemmas.Grind.{get_or_default_zero}
use Rattle.std.proofs.lemmas.List.{get_or-drop, get_or-take, length-drop}
use Rattle.std.proofs.lemmas.List.Elements.{Contains-get_or}
use Rattle.mt_io.specs.Private.Gathering.{EndsWhole}

-- the bytes ahead by their places in the buffer
ahead_at : (bytes : List ℕ) (at end k d : ℕ) → k < end - at → get_or (slice_range bytes at end) k d ≡ get_or bytes (at + k) d
ahead_at bytes at end k d lt = get_or-take (end - at) (drop at bytes) k d lt ∙ get_or-drop at bytes k d

size_ahead : (bytes : List ℕ) (at end : ℕ) → at ≤ end → end ≤ length bytes → length (slice_range bytes at end) ≡ end - at
size_ahead bytes at end within room = simp (length-take, length-drop) (omega arith)

-- a 0x0A is ahead exactly where the last one is
pub has_break : (bytes : List ℕ) (at whole end : ℕ) → at ≤ end → end ≤ length bytes → EndsWhole bytes at whole end
    → IsTrue (nat_lt at whole) ↔ Contains (slice_range bytes at end) 10
has_break bytes at whole end within room ends = (there, back) where
  there : IsTrue (nat_lt at whole) → Contains (slice_range bytes at end) 10
  there is =
      let lt : at < whole = ltb-true at whole is in
      let bound = ends.within in
      let below : (whole - 1) - at < end - at = omega (arith, lt, bound) in
      let place : at + ((whole - 1) - at) ≡ whole - 1 = omega (arith, lt) in
      let break : get_or (slice_range bytes at end) ((whole - 1) - at) 0 ≡ 10 =
      ahead_at bytes at end ((whole - 1) - at) 0 below ∙ ap (λ k. get_or bytes k 0) place ∙ ends.last lt in
      let short : (whole - 1) - at < length (slice_range bytes at end) = omega (arith, below, size_ahead bytes at end within room) in
      rw break at (Contains-get_or (slice_range bytes at end) ((whole - 1) - at) 0 short)

  back : Contains (slice_range bytes at end) 10 → IsTrue (nat_lt at whole)
  back (k, short, is) =
      let below : k < end - at = omega (arith, short, size_ahead bytes at end within room) in
      let break : get_or bytes (at + k) 0 ≡ 10 =
      sym (ahead_at bytes at end k 0 below) ∙ sym (get_or_default_zero (slice_range bytes at end) k 10 short) ∙ is in
      elim (cases_lt at whole) [
        | inl lt ↦ lt-ltb at whole lt
        | inr ge ↦ absurd (ends.none (at + k) (omega (arith, ge)) (omega (arith, below)) break)
      ]
