-- No public contract names these: they are of private steps and of proofs.
use Rattle.std.specs.Prelude.{ℤ, pos, ◌<ℤ◌}
use Rattle.mt_frac.specs.declared.fraction.Frac.{Frac}
use Rattle.mt_frac.specs.declared.linear.Linear.{Linear}
use Rattle.mt_frac.specs.declared.quadratic.Quad.{Quad}
use Rattle.mt_frac.specs.FractionOrder.{IsBetween}
use Rattle.mt_frac.specs.Polynomials.{value, line_value}

-- a quadratic and two lines are below 0 at the fraction n/d
pub record AreBelowAt (gap : Quad) (over under : Linear) (n d : ℤ) : Type 0 where
  pub gap_is : value gap.a gap.b gap.c n d <ℤ pos 0
  pub over_is : line_value over.b over.c n d <ℤ pos 0
  pub under_is : line_value under.b under.c n d <ℤ pos 0

-- the same with a third line
abbrev pub AreBelowWithAt : Quad → Linear → Linear → Linear → ℤ → ℤ → Type 0
AreBelowWithAt gap over under held n d = AreBelowAt gap over under n d × (line_value held.b held.c n d <ℤ pos 0)

-- P at some fraction strictly between lo and hi
pub record HoldsBetween (P : ℤ → ℤ → Type 0) (lo hi : Frac) : Type 0 where
  pub n : ℤ
  pub d : ℤ
  pub positive : pos 0 <ℤ d
  pub between : IsBetween lo hi n d
  pub holds : P n d
