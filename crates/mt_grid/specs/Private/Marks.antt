-- No public contract names these: they are of private steps and of proofs.
-- Marks: which of the numbers 0, 1, 2 .. are marked.
use Rattle.std.specs.Prelude.{◌≡◌, ◌↔◌, ℕ, Bool, true, false, List, Contains, slice_index_or}
use Rattle.std.specs.List.Sorted.{IsStrictlyIncreasing}

-- a number is marked; past the marks' end none is
abbrev pub IsMarked : List Bool → ℕ → Type 0
IsMarked marks number = slice_index_or marks number false ≡ true

-- the marked numbers, rising, each once
pub record AreMarked (marks : List Bool) (numbers : List ℕ) : Type 0 where
  pub rising : IsStrictlyIncreasing numbers
  pub same : (number : ℕ) → Contains numbers number ↔ IsMarked marks number
