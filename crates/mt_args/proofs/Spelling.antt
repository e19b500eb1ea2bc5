-- Options spelled in words.
use Rattle.std.proofs.Common.{◌≡◌, ◌≤◌, ◌+◌, ℕ, true, false, List, [], ◌∷◌, length, drop, Some, None, refl, ◌∙◌, ap, arith}
use Rattle.std.proofs.lemmas.List.{drop_all, drop_more}
use Rattle.std.proofs.lemmas.Option.{get_or_from_slice_get, slice_get_within}
use Rattle.std.specs.Prelude.{slice_get}
use Rattle.mt_args.specs.Task.{before, has_sign, parted, options_of}

-- the words from a place on begin with the word there
from_place : (words : List (List ℕ)) (at : ℕ) (word : List ℕ) → slice_get words at ≡ Some word → drop at words ≡ word ∷ drop (at + 1) words
from_place words at word is =
    drop_more words at word (slice_get_within words at word is) ∙ ap (λ (w : List ℕ). w ∷ drop (at + 1) words) (get_or_from_slice_get words at word word is)

-- an option in one word
whole_first : (word : List ℕ) (rest : List (List ℕ)) → has_sign word ≡ true → options_of (word ∷ rest) ≡ before (parted word) (options_of rest)
whole_first word [] whole = rw whole refl
whole_first word (next ∷ rest) whole = rw whole refl

-- and one in two
part_first : (word next : List ℕ) (rest : List (List ℕ)) → has_sign word ≡ false
    → options_of (word ∷ next ∷ rest) ≡ before (record { name = word; value = next }) (options_of rest)
part_first word next rest part = rw part refl

part_last : (word : List ℕ) → has_sign word ≡ false → options_of (word ∷ []) ≡ None
part_last word part = rw part refl

-- at a place of the words
pub one_word : (words : List (List ℕ)) (at : ℕ) (word name value : List ℕ) → slice_get words at ≡ Some word → has_sign word ≡ true
    → parted word ≡ record { name = name; value = value }
    → options_of (drop at words) ≡ before (record { name = name; value = value }) (options_of (drop (at + 1) words))
one_word words at word name value is whole parts = rw (from_place words at word is, ← parts) (whole_first word (drop (at + 1) words) whole)

pub two_words : (words : List (List ℕ)) (at : ℕ) (word next : List ℕ) → slice_get words at ≡ Some word → slice_get words (at + 1) ≡ Some next
    → has_sign word ≡ false
    → options_of (drop at words) ≡ before (record { name = word; value = next }) (options_of (drop (at + 2) words))
two_words words at word next is also part =
    let two : at + 1 + 1 ≡ at + 2 = omega arith in
    rw (from_place words at word is, from_place words (at + 1) next also, two) (part_first word next (drop (at + 2) words) part)

pub no_value : (words : List (List ℕ)) (at : ℕ) (word : List ℕ) → slice_get words at ≡ Some word → has_sign word ≡ false → length words ≤ at + 1
    → options_of (drop at words) ≡ None
no_value words at word is part over = rw (from_place words at word is, drop_all (at + 1) words over) (part_last word part)
