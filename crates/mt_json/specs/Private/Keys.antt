-- No public contract names these: they are of private steps and of proofs.
use Rattle.std.specs.Prelude.{◌≡◌, ℕ, ◌==◌, List, Option, Some, None, true}
use Rattle.std.specs.List.{before_first, after_first}
use Rattle.std.specs.Ordering.{nat_cmp, match_ordering}
use Rattle.std.specs.Cmp.Lexicographic.{slice_cmp}
use Rattle.mt_json.specs.Keys.{is_allowed}

-- the lesser of a key and another, if there is one
abbrev pub lesser : List ℕ → Option (List ℕ) → List ℕ
lesser k None = k
lesser k (Some l) = match_ordering (slice_cmp nat_cmp l k) l k k

-- what stands before the first space, or all
abbrev pub first_word : List ℕ → List ℕ
first_word words = before_first (λ b. b == 32) words

-- what stands after the first space, or nothing
abbrev pub later_words : List ℕ → List ℕ
later_words words = after_first (λ b. b == 32) words

-- a key that is one of these words is one of those
abbrev pub AreAmong : List ℕ → List ℕ → Type 0
AreAmong these those = (key : List ℕ) → is_allowed these key ≡ true → is_allowed those key ≡ true
