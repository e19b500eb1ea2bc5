-- Elements of which each two are related, in another order.
use Rattle.std.proofs.Common.{◌≡◌, ◌≢◌, ℕ, ◌<◌, ⊎_elim, if◌then◌else◌, ◌==◌, List, [], ◌∷◌, get_or, set, length, refl, sym, ◌∙◌, subst, arith}
use Rattle.std.specs.List.{AllPairs, swap}
use Rattle.std.specs.List.Sorted.{IsPermutation, SwapsInRange, apply_swaps}
use Rattle.std.proofs.lemmas.Bool.{cases_eq, cases_lt, eq-eqb, ne_eqb}
use Rattle.std.proofs.lemmas.List.{get_or-set_other, get_or-set_same, get_or_default, length-set}
use Rattle.std.proofs.lemmas.List.Edits.{length-swap}

-- the place from which an element comes when those of two places are exchanged
abbrev from_place : ℕ → ℕ → ℕ → ℕ
from_place a b k = if k == b then a else if k == a then b else k

from_apart : (a b i j : ℕ) → i ≢ j → from_place a b i ≢ from_place a b j
from_apart a b i j apart = ⊎_elim
    (λ ib. ⊎_elim
    (λ jb. absurd (omega arith))
    (λ jb. ⊎_elim (λ ja. rw (eq-eqb i b ib, ne_eqb j b jb, eq-eqb j a ja) (omega arith)) (λ ja. rw (eq-eqb i b ib, ne_eqb j b jb, ne_eqb j a ja) (omega arith)) (cases_eq j a))
    (cases_eq j b))
    (λ ib. ⊎_elim
    (λ ia. ⊎_elim
    (λ jb. rw (ne_eqb i b ib, eq-eqb i a ia, eq-eqb j b jb) (omega arith))
    (λ jb. ⊎_elim (λ ja. absurd (omega arith)) (λ ja. rw (ne_eqb i b ib, eq-eqb i a ia, ne_eqb j b jb, ne_eqb j a ja) (omega arith)) (cases_eq j a))
    (cases_eq j b))
    (λ ia. ⊎_elim
    (λ jb. rw (ne_eqb i b ib, ne_eqb i a ia, eq-eqb j b jb) (omega arith))
    (λ jb. ⊎_elim
    (λ ja. rw (ne_eqb i b ib, ne_eqb i a ia, ne_eqb j b jb, eq-eqb j a ja) (omega arith))
    (λ ja. rw (ne_eqb i b ib, ne_eqb i a ia, ne_eqb j b jb, ne_eqb j a ja) (omega arith)) (cases_eq j a))
    (cases_eq j b))
    (cases_eq i a))
    (cases_eq i b)

from_inside : (n a b k : ℕ) → a < n → b < n → k < n → from_place a b k < n
from_inside n a b k a_in b_in k_in = ⊎_elim
    (λ kb. rw (eq-eqb k b kb) a_in)
    (λ kb. ⊎_elim (λ ka. rw (ne_eqb k b kb, eq-eqb k a ka) b_in) (λ ka. rw (ne_eqb k b kb, ne_eqb k a ka) k_in) (cases_eq k a)) (cases_eq k b)

swapped_is : {X : Type 0} (xs : List X) (a b k : ℕ) (d : X) → a < length xs → b < length xs → get_or (swap xs a b) k d ≡ get_or xs (from_place a b k) d
swapped_is [] a b k d a_in b_in = absurd (omega arith)
swapped_is {X} (x ∷ ys) a b k d a_in b_in = ⊎_elim
    (λ kb. rw (eq-eqb k b kb, kb) (get_or-set_same once b (get_or xs a x) d (let same = length-set xs a (get_or xs b x) in omega arith) ∙ get_or_default xs a x d a_in))
    (λ kb. get_or-set_other once b k (get_or xs a x) d (omega arith) ∙ ⊎_elim
    (λ ka. rw (ne_eqb k b kb, eq-eqb k a ka, ka) (get_or-set_same xs a (get_or xs b x) d a_in ∙ get_or_default xs b x d b_in))
    (λ ka. rw (ne_eqb k b kb, ne_eqb k a ka) (get_or-set_other xs a k (get_or xs b x) d (omega arith))) (cases_eq k a)) (cases_eq k b) where
      xs : List X
      xs = x ∷ ys

      once : List X
      once = set xs a (get_or xs b x)

-- elements of any two places are related
abbrev AreRelated : {X : Type 0} → (X → X → Type 0) → List X → Type 0
AreRelated {X} R xs = (i j : ℕ) (d : X) → i ≢ j → i < length xs → j < length xs → R (get_or xs i d) (get_or xs j d)

related_swap : {X : Type 0} (R : X → X → Type 0) (xs : List X) (a b : ℕ) → a < length xs → b < length xs → AreRelated R xs → AreRelated R (swap xs a b)
related_swap R xs a b a_in b_in all = λ i j d apart i_in j_in.
    let same = length-swap xs a b in
    rw (swapped_is xs a b i d a_in b_in, swapped_is xs a b j d a_in b_in)
    (all (from_place a b i) (from_place a b j) d (from_apart a b i j apart) (from_inside (length xs) a b i a_in b_in (omega arith))
    (from_inside (length xs) a b j a_in b_in (omega arith)))

length_swaps : {X : Type 0} (xs : List X) (moves : List (ℕ × ℕ)) → length (apply_swaps xs moves) ≡ length xs
length_swaps xs [] = refl
length_swaps xs (m ∷ ms) = length-swap (apply_swaps xs ms) m.0 m.1 ∙ length_swaps xs ms

related_swaps : {X : Type 0} (R : X → X → Type 0) (xs : List X) (moves : List (ℕ × ℕ)) → SwapsInRange (length xs) moves → AreRelated R xs
    → AreRelated R (apply_swaps xs moves)
related_swaps R xs [] below all = all
related_swaps R xs (m ∷ ms) below all =
    let same = length_swaps xs ms in
    let low = below.0 in
    let high = below.1 in
    related_swap R (apply_swaps xs ms) m.0 m.1 (omega arith) (omega arith) (related_swaps R xs ms below.2 all)

-- of a relation that goes both ways
pub AllPairs-permutation : {X : Type 0} (R : X → X → Type 0) (xs ys : List X) → ((x y : X) → R x y → R y x) → IsPermutation xs ys → AllPairs R xs → AllPairs R ys
AllPairs-permutation {X} R xs ys back moved all = subst (AllPairs R) (sym moved.is) (λ i j d before below.
    related_swaps R xs moved.moves moved.below related i j d (omega arith) (let b = below in omega arith) below) where
      related : AreRelated R xs
      related i j d apart i_in j_in = ⊎_elim (λ before. all i j d before j_in) (λ after. back (get_or xs j d) (get_or xs i d) (all j i d (omega arith) i_in)) (cases_lt i j)
