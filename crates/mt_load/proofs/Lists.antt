-- Lists of what a function gives for the numbers below another.
use Rattle.std.proofs.Common.{◌≡◌, ◌∙◌, ℕ, zero, suc, ◌+◌, ◌<◌, List, [], ◌∷◌, ◌++◌, All, sym, add-one, append-nil, append_assoc, arith}
use Rattle.std.proofs.lemmas.List.Elements.{All-append, All-from_recursion}
use Rattle.mt_load.specs.Input.{each_below}

-- none after others
pub each_none : {A : Type 0} (f : ℕ → A) (before : List A) → before ≡ before ++ each_below f 0
unfolding each_below
each_none f before = sym (append-nil before)

-- one more after others
pub each_more : {A : Type 0} (f : ℕ → A) (n : ℕ) (before now next : List A) (x : A) → now ≡ before ++ each_below f n → x ≡ f n → next ≡ now ++ x ∷ []
    → next ≡ before ++ each_below f (n + 1)
unfolding each_below
each_more f n before now next x is_now is_x is_next =
    is_next ∙ rw (is_now, is_x, add-one) (append_assoc before (each_below f n) (f n ∷ []))

-- what holds of each value holds of all
pub all_below : {A : Type 0} (P : A → Type 0) (f : ℕ → A) (n : ℕ) → ((k : ℕ) → k < n → P (f k)) → All P (each_below f n)
unfolding each_below
all_below P f zero each = All-from_recursion P [] tt
all_below P f (suc n) each =
    All-append P (each_below f n) (f n ∷ []) (all_below P f n (λ k below. each k (omega arith)))
    (All-from_recursion P (f n ∷ []) (each n (omega arith), tt))
