-- What lines are, by induction on the first of them.
use Rattle.std.proofs.Common.{◌≡◌, ◌≢◌, ◌<◌, ℕ, false, nat_eq, List, [], ◌∷◌, ◌++◌, length, refl, arith}
use Rattle.std.proofs.lemmas.Bool.Decides.{nat_tests}
use Rattle.mt_io.specs.Lines.{lines_of, whole_lines_of, IsPart}

other_byte : (b : ℕ) → b ≢ 10 → nat_eq b 10 ≡ false
other_byte b apart = grind (arith, nat_tests)

pub lines_of-first : (line rest : List ℕ) → IsPart line → lines_of (line ++ 10 ∷ rest) ≡ line ∷ lines_of rest
lines_of-first [] rest part = refl
lines_of-first (b ∷ line) rest part = rw (other_byte b part.0, lines_of-first line rest part.1) refl

pub lines_of-last : (line : List ℕ) → IsPart line → 0 < length line → lines_of line ≡ line ∷ []
lines_of-last [] part some = absurd (omega arith)
lines_of-last (b ∷ []) part some = rw (other_byte b part.0) refl
lines_of-last (b ∷ c ∷ line) part some = rw (other_byte b part.0, lines_of-last (c ∷ line) part.1 (omega arith)) refl

pub whole_lines_of-first : (line rest : List ℕ) → IsPart line → whole_lines_of (line ++ 10 ∷ rest) ≡ line ∷ whole_lines_of rest
whole_lines_of-first [] rest part = refl
whole_lines_of-first (b ∷ line) rest part = rw (other_byte b part.0, whole_lines_of-first line rest part.1) refl

pub whole_lines_of-last : (part : List ℕ) → IsPart part → whole_lines_of part ≡ []
whole_lines_of-last [] is_part = refl
whole_lines_of-last (b ∷ part) is_part = rw (other_byte b is_part.0, whole_lines_of-last part is_part.1) refl
