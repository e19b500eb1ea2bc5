use Rattle.std.specs.Prelude.{ℕ, ◌<◌, ◌≤◌, ⊤, Option, Some, None}

-- the first and the last k in a range that has P
pub record IsSpanOf (P : ℕ → Type 0) (low high first last : ℕ) : Type 0 where
  pub inside : (low ≤ first) × (first ≤ last) × (last < high)
  pub first_is : P first
  pub last_is : P last
  pub none_outside : (k : ℕ) → low ≤ k → k < high → P k → (first ≤ k) × (k ≤ last)

-- that span, or none where no k has P
abbrev pub IsSpan : (ℕ → Type 0) → ℕ → ℕ → Option (ℕ × ℕ) → Type 0
IsSpan P low high (Some span) = IsSpanOf P low high span.0 span.1
IsSpan P low high None = (k : ℕ) → low ≤ k → k < high → ¬ P k

-- every k of a span has P, if there is a span
abbrev pub IsSolid : (ℕ → Type 0) → Option (ℕ × ℕ) → Type 0
IsSolid P None = ⊤
IsSolid P (Some span) = (k : ℕ) → span.0 ≤ k → k ≤ span.1 → P k

-- the span of what a span and a later one hold
abbrev pub joined : Option (ℕ × ℕ) → Option (ℕ × ℕ) → Option (ℕ × ℕ)
joined None later = later
joined (Some span) None = Some span
joined (Some span) (Some later) = Some (span.0, later.1)

-- `IsLeast`, `IsGreatest`: the least, and the greatest, k from low up to high with P
pub record IsLeast (P : ℕ → Type 0) (low high first : ℕ) : Type 0 where
  pub begun : low ≤ first
  pub ahead : first < high
  pub is : P first
  pub none_before : (k : ℕ) → low ≤ k → k < first → ¬ P k

pub record IsGreatest (P : ℕ → Type 0) (low high last : ℕ) : Type 0 where
  pub begun : low ≤ last
  pub ahead : last < high
  pub is : P last
  pub none_after : (k : ℕ) → last < k → k < high → ¬ P k
