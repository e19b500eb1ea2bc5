-- No public contract names these: they are of private steps and of proofs.
-- What the code asks of two rows: at most three cases, each of one quadratic and two or three lines.
use Rattle.std.specs.Prelude.{◌≡◌, ℕ, ℤ, ◌⊎◌, Option, Some, None}
use Rattle.std.specs.Option.{option_copied}
use Rattle.mt_base.specs.declared.row.Row.{Row}
use Rattle.mt_base.specs.declared.rules.Rules.{Rules}
use Rattle.mt_frac.specs.declared.quadratic.Quad.{Quad}
use Rattle.mt_pair.specs.declared.approach.Approach.{Approach}
use Rattle.mt_pair.specs.declared.approach.High.{High}
use Rattle.mt_pair.specs.Private.Below.{AreBelowAt, AreBelowWithAt}
use Rattle.mt_pair.specs.Gap.{above_of, excess_of}
use Rattle.mt_pair.specs.Private.High.{AreLow}

-- `IsHighAt`, `IsHighLoss`: loss by the greater minimum, while the one or the other aircraft is high
abbrev pub IsHighAt : Quad → High → ℤ → ℤ → Type 0
IsHighAt gap high n d = AreBelowWithAt gap high.over high.under high.left n d ⊎ AreBelowWithAt gap high.over high.under high.right n d

abbrev pub IsHighLoss : Quad → Option High → ℤ → ℤ → Type 0
IsHighLoss gap None n d = ⊥
IsHighLoss gap (Some high) n d = IsHighAt gap high n d

-- loss by the lesser minimum, or by the greater
abbrev pub IsLoss : Approach → ℤ → ℤ → Type 0
IsLoss x n d = AreBelowAt x.gap x.over x.under n d ⊎ IsHighLoss x.gap (option_copied x.high) n d

-- the lines of the greater minimum, of two rows
pub record AreHighOf (rules : Rules) (level : ℤ) (a b : Row) (high : High) : Type 0 where
  pub over : high.over ≡ excess_of rules.sv2 a b
  pub under : high.under ≡ excess_of rules.sv2 b a
  pub left : high.left ≡ above_of level a
  pub right : high.right ≡ above_of level b

-- the lines of the greater minimum for so many seconds. None where neither aircraft is above the level in them.
abbrev pub IsHighOf : Rules → ℤ → Row → Row → ℕ → Option High → Type 0
IsHighOf rules level a b seconds None = AreLow level a b seconds
IsHighOf rules level a b seconds (Some high) = AreHighOf rules level a b high
