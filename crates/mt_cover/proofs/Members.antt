-- Members of lists.
use Rattle.std.proofs.Common.{◌≡◌, ℕ, zero, suc, ◌+◌, ◌-◌, ◌<◌, ◌≤◌, List, [], ◌∷◌, Contains, Some, take, drop, length-take, refl, ap, sym, ◌∙◌, arith}
use Rattle.std.proofs.lemmas.List.FromFn.{get_or-range_with_len, length-range_with_len}
use Rattle.std.proofs.lemmas.Option.{slice_get_within}
use Rattle.std.specs.List.{range_with_len}
use Rattle.std.specs.Prelude.{slice_get}

pub Contains-range : (a n k : ℕ) → a ≤ k → k < a + n → Contains (range_with_len a n) k
Contains-range a n k begun within =
    (k - a, omega (arith, length-range_with_len a n), get_or-range_with_len a n (k - a) k (omega arith) ∙ omega arith)

-- a place of a part of a list
pub slice_get-take : {X : Type 0} (n : ℕ) (xs : List X) (i : ℕ) → i < n → slice_get (take n xs) i ≡ slice_get xs i
slice_get-take zero xs i below = absurd (omega arith)
slice_get-take (suc n) [] i below = refl
slice_get-take (suc n) (x ∷ xs) zero below = refl
slice_get-take (suc n) (x ∷ xs) (suc i) below = slice_get-take n xs i (omega arith)

pub slice_get-drop : {X : Type 0} (n : ℕ) (xs : List X) (i : ℕ) → slice_get (drop n xs) i ≡ slice_get xs (n + i)
slice_get-drop zero xs i = let e : 0 + i ≡ i = omega arith in rw e refl
slice_get-drop (suc n) [] i = refl
slice_get-drop (suc n) (x ∷ xs) i = let e : suc n + i ≡ suc (n + i) = omega arith in rw e (slice_get-drop n xs i)

-- an element of a list, in a part of the list
pub in_part : {X : Type 0} (xs : List X) (number from i k : ℕ) (x : X) → from + i ≡ k → i < number → slice_get xs k ≡ Some x → slice_get (take number (drop from xs)) i ≡ Some x
in_part xs number from i k x place below at = slice_get-take number (drop from xs) i below ∙ slice_get-drop from xs i ∙ ap (slice_get xs) place ∙ at

-- an element of a part is one of a wider part
pub part_in_part : {X : Type 0} (xs : List X) (number more from before i : ℕ) (x : X) → before ≤ from → from + number ≤ before + more
    → slice_get (take number (drop from xs)) i ≡ Some x → slice_get (take more (drop before xs)) ((from - before) + i) ≡ Some x
part_in_part xs number more from before i x begun within at =
    let few = slice_get_within (take number (drop from xs)) i x at in
    let below : i < number = omega (arith, few, length-take number (drop from xs)) in
    let here : slice_get xs (from + i) ≡ Some x = sym (slice_get-drop from xs i) ∙ sym (slice_get-take number (drop from xs) i below) ∙ at in
    in_part xs more before ((from - before) + i) (from + i) x (omega (arith, begun)) (omega (arith, below, within, begun)) here
