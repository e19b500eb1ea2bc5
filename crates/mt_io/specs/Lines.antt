-- The lines of bytes. A line ends before each 0x0A, and the last one, where it has a byte, at the end.
use Rattle.std.specs.Prelude.{◌≡◌, ◌≢◌, ◌<◌, ℕ, ◌==◌, List, [], ◌∷◌, ◌++◌, length, if◌then◌else◌}
use Rattle.std.specs.List.{onto_first, AllByRecursion}

-- all lines of some bytes, without their 0x0A
abbrev pub lines_of : List ℕ → List (List ℕ)
lines_of [] = []
lines_of (b ∷ bytes) = if b == 10 then [] ∷ lines_of bytes else onto_first b (lines_of bytes)

-- a byte in front of the first line, if any
abbrev pub onto_whole : ℕ → List (List ℕ) → List (List ℕ)
onto_whole b [] = []
onto_whole b (line ∷ lines) = (b ∷ line) ∷ lines

-- the lines that have their 0x0A
abbrev pub whole_lines_of : List ℕ → List (List ℕ)
whole_lines_of [] = []
whole_lines_of (b ∷ bytes) = if b == 10 then [] ∷ whole_lines_of bytes else onto_whole b (whole_lines_of bytes)

-- a line or part of one, without 0x0A
abbrev pub IsPart : List ℕ → Type 0
IsPart bytes = AllByRecursion (λ b. b ≢ 10) bytes

-- a line ends with 0x0A or with the bytes
pub record LawsOfLines : Type 0 where
  pub none : lines_of [] ≡ []
  pub first : (line rest : List ℕ) → IsPart line → lines_of (line ++ 10 ∷ rest) ≡ line ∷ lines_of rest
  pub last : (line : List ℕ) → IsPart line → 0 < length line → lines_of line ≡ line ∷ []
  pub first_whole : (line rest : List ℕ) → IsPart line → whole_lines_of (line ++ 10 ∷ rest) ≡ line ∷ whole_lines_of rest
  pub last_whole : (part : List ℕ) → IsPart part → whole_lines_of part ≡ []
