-- No public contract names these: they are of private steps and of proofs.
use Rattle.std.specs.Prelude.{ℕ, ◌+◌, ◌<◌, ◌≤◌, Option, Some, None, ⊤}

-- between two k of a range that have P each has it
abbrev pub AreTogether : (ℕ → Type 0) → ℕ → ℕ → Type 0
AreTogether P low high = (first k last : ℕ) → low ≤ first → first ≤ k → k ≤ last → last < high → P first → P last → P k

-- no k lies between a span and a later one
abbrev pub AreAdjacent : Option (ℕ × ℕ) → Option (ℕ × ℕ) → Type 0
AreAdjacent None later = ⊤
AreAdjacent (Some span) None = ⊤
AreAdjacent (Some span) (Some later) = later.0 ≤ span.1 + 1
