-- No public contract names these: they are of private steps and of proofs.
use Rattle.std.specs.Prelude.{ℕ, ◌<◌, ◌≤◌, Option, Some, None}
use Rattle.mt_base.specs.Span.{IsLeast}

-- the least, or none where no k from low up to high has P
abbrev pub IsFirst : (ℕ → Type 0) → ℕ → ℕ → Option ℕ → Type 0
IsFirst P low high (Some first) = IsLeast P low high first
IsFirst P low high None = (k : ℕ) → low ≤ k → k < high → ¬ P k
