-- Seconds that are stale, and marking one.
use Rattle.std.proofs.Common.{◌≡◌, ℕ, zero, suc, ◌-◌, ◌<◌, ◌≤◌, ⊎_elim, true, false, not, Bool, true≢false, nat_lt, List, [], ◌∷◌, get_or, length, Option, sym, ◌∙◌, ap, refl, arith}
use Rattle.std.proofs.lemmas.Bool.{and_parts, cases_Bool, cases_lt, or_parts}
use Rattle.std.proofs.lemmas.Bool.Decides.{nat_tests}
use Rattle.mt_base.specs.declared.conflict.Conflict.{Conflict}
use Rattle.mt_base.specs.Picture.{window_end}
use Rattle.mt_kept.specs.Private.Made.{window_last}
use Rattle.mt_kept.specs.declared.stale.Stale.{Stale}
use Rattle.mt_kept.specs.Private.Stale.{AreStale, IsChangeMarked, IsLater, is_settled, is_stale, stays}

-- a second without a mark
within : (marks : List Bool) (i : ℕ) → get_or marks i true ≡ false → i < length marks
within [] i none = absurd (true≢false none)
within (m ∷ ms) zero none = omega arith
within (m ∷ ms) (suc i) none = let below = within ms i none in omega arith

-- a second that isn't stale lies in both look-aheads
pub fresh_within : (moment now k : ℕ) (stale : Stale) → AreStale moment now stale → is_stale stale k ≡ false → (now ≤ k) × (k < window_end moment)
fresh_within moment now k stale are none =
    let parts = or_parts (nat_lt k stale.from) (get_or stale.marks.items (k - stale.from) true) none in
    let inside = within stale.marks.items (k - stale.from) parts.1 in
    let from = are.from_is in
    let short = are.length_is in
    let late : stale.from ≤ k = ⊎_elim (λ before. absurd (let t : nat_lt k stale.from ≡ true = grind (arith, nat_tests) in true≢false (sym t ∙ parts.0))) (λ after. after) (cases_lt k stale.from) in
    (omega arith, omega arith)

pub not_true : (b : Bool) → not b ≡ true → b ≡ false
not_true true e = sym e
not_true false e = refl

-- a span that is settled begins in a fresh second, and ends early
pub record IsSettled (moment now : ℕ) (stale : Stale) (first last : ℕ) : Type 0 where
  pub fresh : is_stale stale first ≡ false
  pub late : now ≤ first
  pub ahead : first < window_end moment
  pub early : last < window_last moment

pub settled_is : (moment now : ℕ) (stale : Stale) (first last : ℕ) → AreStale moment now stale → is_settled stale first last ≡ true
    → IsSettled moment now stale first last
settled_is moment now stale first last are sure =
    let parts = and_parts (nat_lt last stale.last) (not (is_stale stale first)) sure in
    let fresh = not_true (is_stale stale first) parts.1 in
    let inside = fresh_within moment now first stale are fresh in
    let end = are.last_is in
    let before = parts.0 in
    record { fresh = fresh; late = inside.0; ahead = inside.1; early = let low : last < stale.last = grind (arith, nat_tests) in omega arith }

pub settled_of : (moment now : ℕ) (stale : Stale) (first last : ℕ) → AreStale moment now stale → is_stale stale first ≡ false → last < window_last moment
    → is_settled stale first last ≡ true
settled_of moment now stale first last are fresh early =
    let end = are.last_is in
    let low : last < stale.last = omega arith in
    let before : nat_lt last stale.last ≡ true = grind (arith, nat_tests) in
    rw (before, fresh) refl

-- a conflict that stays when more is marked stayed before
pub stays_earlier : (old new : Stale) (c : Conflict) → IsLater old new → stays new c ≡ true → stays old c ≡ true
stays_earlier old new c later sure =
    let parts = and_parts (nat_lt c.last new.last) (not (is_stale new c.first)) sure in
    let fresh : is_stale old c.first ≡ false = ⊎_elim
    (λ some. absurd (true≢false (sym (later.stays c.first some) ∙ not_true (is_stale new c.first) parts.1)))
    (λ none. none) (cases_Bool (is_stale old c.first)) in
    rw (← later.last_stays, parts.0, fresh) refl

-- stale seconds are those of the same moments after a mark
pub stale_changed : (moment now : ℕ) (shown shows : Option Conflict) (old new : Stale) → AreStale moment now old → IsChangeMarked shown shows old new
    → AreStale moment now new
stale_changed moment now shown shows old new are marked = record {
  from_is = marked.later.from_stays ∙ are.from_is;
  last_is = marked.later.last_stays ∙ are.last_is;
  length_is = marked.later.length_stays ∙ are.length_is;
  bare = λ none k low high.
      let same = marked.bare none in
      ap (λ (s : Stale). is_stale s k) same ∙ are.bare (ap (λ (s : Stale). s.marked) (sym same) ∙ none) k low high;
}
