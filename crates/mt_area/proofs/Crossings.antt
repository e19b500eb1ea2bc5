-- Which of the lines of an area count during some seconds, one line more at a time.
use Rattle.std.proofs.Common.{⊎_elim, ℕ, ◌+◌, ◌<◌, ◌≤◌, ℤ, pos, neg_ℤ, ◌+ℤ◌, ◌*ℤ◌, ◌<ℤ◌, ◌≤ℤ◌, ◌↔◌, List, [], ◌∷◌, ◌++◌, All, take, length, slice_set, refl, subst, arith}
use Rattle.std.proofs.lemmas.Bool.{cases_lt}
use Rattle.std.proofs.lemmas.List.{get_or_append_left, get_or_push, length-append, take_more_set}
use Rattle.std.proofs.lemmas.List.Elements.{All-push}
use Rattle.mt_ring.proofs.Ring.{lin, spread}
use Rattle.mt_ring.proofs.Signs.{cases_ℤ, mul_nonneg}
use Rattle.mt_base.specs.declared.area.Area.{Area}
use Rattle.mt_base.specs.declared.row.Row.{Row}
use Rattle.mt_base.specs.Area.{IsBoundedArea, IsInsideAt}
use Rattle.mt_frac.specs.declared.linear.Linear.{Linear}
use Rattle.mt_frac.specs.Meeting.{AreBelow, IsBoundedSide}
use Rattle.mt_frac.specs.Polynomials.{line_value}
use Rattle.mt_area.specs.Private.Lines.{AreCrossed, IsDuringOrAtEnd, IsLineOf, Says, StaysAboveLine, StaysBelow}

-- what a line is at both ends of some seconds it is during all of them
below_during : (b c e n d : ℤ) → pos 0 <ℤ d → pos 0 ≤ℤ n → n ≤ℤ (e *ℤ d) → c <ℤ pos 0 → (b *ℤ e +ℤ c) <ℤ pos 0 → line_value b c n d <ℤ pos 0
below_during b c e n d d+ begun within first last = ⊎_elim
    (λ falls.
    let p = mul_nonneg (neg_ℤ b) n (omega (arith, lin)) begun in
    let q = mul_nonneg (neg_ℤ (pos 1) +ℤ neg_ℤ c) d (omega (arith, lin)) (omega (arith, lin)) in
    omega (arith, lin, simp spread at p, simp spread at q))
    (λ rises.
    let p = mul_nonneg b (e *ℤ d +ℤ neg_ℤ n) rises (omega (arith, lin)) in
    let q = mul_nonneg (neg_ℤ (pos 1) +ℤ neg_ℤ (b *ℤ e +ℤ c)) d (omega (arith, lin)) (omega (arith, lin)) in
    omega (arith, lin, simp spread at p, simp spread at q))
    (cases_ℤ b)

above_during : (b c e n d : ℤ) → pos 0 <ℤ d → pos 0 ≤ℤ n → n ≤ℤ (e *ℤ d) → pos 0 ≤ℤ c → pos 0 ≤ℤ (b *ℤ e +ℤ c) → pos 0 ≤ℤ line_value b c n d
above_during b c e n d d+ begun within first last = ⊎_elim
    (λ falls.
    let p = mul_nonneg (neg_ℤ b) (e *ℤ d +ℤ neg_ℤ n) (omega (arith, lin)) (omega (arith, lin)) in
    let q = mul_nonneg (b *ℤ e +ℤ c) d last (omega (arith, lin)) in
    omega (arith, lin, simp spread at p, simp spread at q))
    (λ rises.
    let p = mul_nonneg b n rises begun in
    let q = mul_nonneg c d first (omega (arith, lin)) in
    omega (arith, lin, p, q))
    (cases_ℤ b)

-- of a list with one more at its end
all_before : {X : Type 0} (P : X → Type 0) (xs : List X) (x : X) → All P (xs ++ x ∷ []) → All P xs
all_before P xs x all = λ k d below. rw (get_or_append_left xs (x ∷ []) d k below) at (all k d (let e = length-append xs (x ∷ []) in omega (arith, e)))

all_behind : {X : Type 0} (P : X → Type 0) (xs : List X) (x : X) → All P (xs ++ x ∷ []) → P x
all_behind P xs x all = rw (get_or_push xs x x (length xs) refl) at (all (length xs) x (let e = length-append xs (x ∷ []) in omega (arith, e)))

-- what the first so many places say
abbrev pub FirstSay : Area → Row → ℕ → ℤ → ℤ → Type 0
FirstSay area row i n d = (k : ℕ) → k < i → Says area row k n d

one_said_more : (area : Area) (row : Row) (i : ℕ) (n d : ℤ) → FirstSay area row i n d → Says area row i n d → FirstSay area row (i + 1) n d
one_said_more area row i n d first says k less = ⊎_elim
    (λ before. first k before)
    (λ at. subst (λ (j : ℕ). Says area row j n d) (omega arith) says)
    (cases_lt k i)

inside_says : (area : Area) (row : Row) (n d : ℤ) → IsInsideAt area row n d → (k : ℕ) → Says area row k n d
inside_says area row n d at k = record { left = λ place. at.left k place; above = λ e. at.above; below = λ e. at.below }

-- The lines so far are below 0 together exactly where the first places hold.
pub record AreFirst (area : Area) (row : Row) (seconds i : ℕ) (lines : List Linear) : Type 0 where
  pub bounded : All IsBoundedSide lines
  pub exact : (n d : ℤ) → IsDuringOrAtEnd seconds n d → AreBelow lines n d ↔ FirstSay area row i n d

-- a line that stays below 0 isn't needed
pub AreFirst-skip : (area : Area) (row : Row) (seconds i : ℕ) (lines : List Linear) (line : Linear) → IsLineOf area row i line → StaysBelow line seconds
    → AreFirst area row seconds i lines → AreFirst area row seconds (i + 1) lines
AreFirst-skip area row seconds i lines line is below first = record {
  bounded = first.bounded;
  exact = λ n d during. (
    (λ low. one_said_more area row i n d ((first.exact n d during).0 low)
        ((is n d during.positive).0 (below_during line.b line.c (pos seconds) n d during.positive during.begun during.within below.0 below.1))),
    (λ say. (first.exact n d during).1 (λ k less. say k (omega arith))),
  );
}

-- where one stays at 0 or above, nothing is inside
pub none_crossed : (area : Area) (row : Row) (seconds i : ℕ) (line : Linear) → IsLineOf area row i line → StaysAboveLine line seconds
    → (n d : ℤ) → IsDuringOrAtEnd seconds n d → ¬ IsInsideAt area row n d
none_crossed area row seconds i line is above n d during inside =
    let low = (is n d during.positive).1 (inside_says area row n d inside i) in
    let high = above_during line.b line.c (pos seconds) n d during.positive during.begun during.within above.0 above.1 in
    absurd (omega (arith, lin, low, high))

-- every other line is put after those before it
abbrev IsBelow : ℤ → ℤ → Linear → Type 0
IsBelow n d line = line_value line.b line.c n d <ℤ pos 0

pub AreFirst-push : (area : Area) (row : Row) (seconds i count : ℕ) (lines : List Linear) (line : Linear) → count < length lines → IsLineOf area row i line → IsBoundedSide line
    → AreFirst area row seconds i (take count lines) → AreFirst area row seconds (i + 1) (take (count + 1) (slice_set lines count line))
AreFirst-push area row seconds i count lines line room is kept first = rw (take_more_set lines count line room) (record {
  bounded = All-push IsBoundedSide (take count lines) line first.bounded kept;
  exact = λ n d during. (
    (λ low. one_said_more area row i n d
        ((first.exact n d during).0 (all_before (IsBelow n d) (take count lines) line low))
        ((is n d during.positive).0 (all_behind (IsBelow n d) (take count lines) line low))),
    (λ say. All-push (IsBelow n d) (take count lines) line ((first.exact n d during).1 (λ k less. say k (omega arith)))
        ((is n d during.positive).1 (say i (omega arith)))),
  );
})

pub none_yet : (area : Area) (row : Row) (seconds : ℕ) → AreFirst area row seconds 0 []
none_yet area row seconds = record {
  bounded = λ k d below. absurd (omega arith);
  exact = λ n d during. ((λ low k less. absurd (omega arith)), (λ say k dflt below. absurd (omega arith)));
}

-- all eighteen
pub AreFirst-all : (area : Area) (row : Row) (seconds i : ℕ) (lines : List Linear) → IsBoundedArea area → 18 ≤ i → AreFirst area row seconds i lines
    → AreCrossed area row seconds lines
AreFirst-all area row seconds i lines kept all first = record {
  bounded = first.bounded;
  inside = λ n d during. (
    (λ low.
        let say = (first.exact n d during).0 low in
        record {
          above = (say 16 (omega arith)).above refl;
          below = (say 17 (omega arith)).below refl;
          left = λ k place. (say k (omega (arith, kept.few))).left place;
        }),
    (λ at. (first.exact n d during).1 (λ k less. inside_says area row n d at k)),
  );
}
