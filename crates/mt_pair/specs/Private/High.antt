-- No public contract names these: they are of private steps and of proofs.
use Rattle.std.specs.Prelude.{ℕ, ℤ, pos, ◌+ℤ◌, ◌*ℤ◌, ◌<ℤ◌, ◌≤ℤ◌, ◌⊎◌}
use Rattle.mt_base.specs.declared.row.Row.{Row}
use Rattle.mt_base.specs.declared.rules.Rules.{Rules}
use Rattle.mt_frac.specs.declared.linear.Linear.{Linear}
use Rattle.mt_pair.specs.Gap.{excess_of}

-- a line is at least 0 at the start, and so many seconds later
pub record StaysAbove (line : Linear) (seconds : ℕ) : Type 0 where
  pub start : pos 0 ≤ℤ line.c
  pub end : pos 0 ≤ℤ (line.b *ℤ pos seconds +ℤ line.c)

-- a row isn't above a level at the start of its second, nor so many seconds later. It keeps its gains until then.
pub record IsLow (level : ℤ) (a : Row) (seconds : ℕ) : Type 0 where
  pub start : a.z ≤ℤ level
  pub end : (a.z +ℤ a.vz *ℤ pos seconds) ≤ℤ level

-- neither of two rows is above that level
abbrev pub AreLow : ℤ → Row → Row → ℕ → Type 0
AreLow level a b seconds = IsLow level a seconds × IsLow level b seconds

-- one of two rows is above the other by the lesser minimum, at the start and so many seconds later
abbrev pub AreFar : Rules → Row → Row → ℕ → Type 0
AreFar rules a b seconds = StaysAbove (excess_of rules.sv a b) seconds ⊎ StaysAbove (excess_of rules.sv b a) seconds

-- the fraction n/d is an instant of the first so many seconds
pub record IsDuring (seconds : ℕ) (n d : ℤ) : Type 0 where
  pub positive : pos 0 <ℤ d
  pub begun : pos 0 ≤ℤ n
  pub ahead : n <ℤ (pos seconds *ℤ d)
