use Rattle.std.proofs.Common.{◌≡◌, ◌≤◌, ℕ, List, [], ◌∷◌, ◌++◌, length, drop, true, refl, arith}
use Rattle.std.proofs.lemmas.Bool.Decides.{nat_tests}
use Rattle.std.specs.Prelude.{slice_set}
use Rattle.mt_base.specs.Name.{is_name}
use Rattle.mt_base.specs.Private.Padded.{IsPadded}

-- a text and its length, written over eight zeros
abbrev written : List ℕ → List ℕ
written text = slice_set (text ++ drop (length text) (0 ∷ 0 ∷ 0 ∷ 0 ∷ 0 ∷ 0 ∷ 0 ∷ 0 ∷ [])) 7 (length text)

pub fits : (low high : ℕ) (text : List ℕ) → high ≤ 7 → is_name low high text ≡ true → length text ≤ 7
fits low high text longest named = grind (arith, nat_tests)

-- a name within narrower bounds is one within wider bounds
widened : (low high : ℕ) (text : List ℕ) → 1 ≤ low → high ≤ 7 → is_name low high text ≡ true → is_name 1 7 text ≡ true
widened low high text shortest longest named = grind (arith, nat_tests)

-- what is written over the zeros are the eight bytes of the name
is_padded : (text : List ℕ) → length text ≤ 7 → is_name 1 7 text ≡ true → IsPadded (written text)
is_padded [] short named = record { same = refl; named = named }
is_padded (a ∷ []) short named = record { same = refl; named = named }
is_padded (a ∷ b ∷ []) short named = record { same = refl; named = named }
is_padded (a ∷ b ∷ c ∷ []) short named = record { same = refl; named = named }
is_padded (a ∷ b ∷ c ∷ d ∷ []) short named = record { same = refl; named = named }
is_padded (a ∷ b ∷ c ∷ d ∷ e ∷ []) short named = record { same = refl; named = named }
is_padded (a ∷ b ∷ c ∷ d ∷ e ∷ f ∷ []) short named = record { same = refl; named = named }
is_padded (a ∷ b ∷ c ∷ d ∷ e ∷ f ∷ g ∷ []) short named = record { same = refl; named = named }
is_padded (a ∷ b ∷ c ∷ d ∷ e ∷ f ∷ g ∷ h ∷ rest) short named = absurd (omega arith)

pub written_is : (low high : ℕ) (text : List ℕ) → 1 ≤ low → high ≤ 7 → is_name low high text ≡ true → IsPadded (written text)
written_is low high text shortest longest named = is_padded text (fits low high text longest named) (widened low high text shortest longest named)
