use Rattle.std.specs.Prelude.{◌≡◌, ℕ, Option, Some}
use Rattle.mt_base.specs.declared.row.Row.{Row}
use Rattle.mt_base.specs.declared.rules.Rules.{Rules}
use Rattle.mt_base.specs.Loss.{LosesIn}
use Rattle.mt_base.specs.Span.{IsSpan, IsSpanOf}
use Rattle.mt_base.specs.Trajectory.{Trajectory, row_at}

-- two trajectories lose separation in second k. Both cover it, and at some instant of it their rows lose separation.
pub record IsLossSecond (rules : Rules) (a b : Trajectory) (k : ℕ) : Type 0 where
  pub left : Row
  pub right : Row
  pub left_is : row_at a k ≡ Some left
  pub right_is : row_at b k ≡ Some right
  pub loss : LosesIn rules a.rvsm b.rvsm left right

-- the first and the last loss second of a range
abbrev pub IsSpanOfLoss : Rules → Trajectory → Trajectory → ℕ → ℕ → ℕ → ℕ → Type 0
IsSpanOfLoss rules a b = IsSpanOf (IsLossSecond rules a b)

-- the conflict of two trajectories in a range, or none
abbrev pub IsConflict : Rules → Trajectory → Trajectory → ℕ → ℕ → Option (ℕ × ℕ) → Type 0
IsConflict rules a b = IsSpan (IsLossSecond rules a b)
