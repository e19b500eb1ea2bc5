-- Where a quadratic and a line are below 0, over all fractions n/d of an open interval.
use Rattle.std.specs.Prelude.{◌<◌, ◌^◌, ℤ, pos, ◌≤ℤ◌, ◌<ℤ◌, unsigned_abs, ◌↔◌, Some, None}
use Rattle.std.specs.declared.option.Option.{Option}
use Rattle.mt_frac.specs.declared.fraction.Frac.{Frac}
use Rattle.mt_frac.specs.declared.quadratic.Quad.{Quad}
use Rattle.mt_frac.specs.declared.linear.Linear.{Linear}
use Rattle.mt_frac.specs.FractionOrder.{IsBefore, IsBetween}
use Rattle.mt_frac.specs.Polynomials.{value, line_value}

-- a quadratic's coefficients fit: below 2^26, 2^40 and 2^50
pub record IsBoundedQuad (quad : Quad) : Type 0 where
  pub a_bounded : unsigned_abs quad.a < 2 ^ 26
  pub b_bounded : unsigned_abs quad.b < 2 ^ 40
  pub c_bounded : unsigned_abs quad.c < 2 ^ 50

-- a line's coefficients fit: below 2^18 and 2^32
pub record IsBoundedLine (line : Linear) : Type 0 where
  pub b_bounded : unsigned_abs line.b < 2 ^ 18
  pub c_bounded : unsigned_abs line.c < 2 ^ 32

-- the quadratic is below 0 somewhere strictly between lo and hi
pub record IsBelowZeroIn (quad : Quad) (lo hi : Frac) : Type 0 where
  pub n : ℤ
  pub d : ℤ
  pub positive : pos 0 <ℤ d
  pub between : IsBetween lo hi n d
  pub below : value quad.a quad.b quad.c n d <ℤ pos 0

-- n/d lies strictly between, with the line below 0
pub record IsBelowAt (line : Linear) (lo hi : Frac) (n d : ℤ) : Type 0 where
  pub between : IsBetween lo hi n d
  pub below : line_value line.b line.c n d <ℤ pos 0

-- the exact part between lo and hi with the line below 0
pub record IsExactPart (line : Linear) (lo hi low high : Frac) : Type 0 where
  pub ordered : IsBefore low high
  pub exact : (n d : ℤ) → pos 0 <ℤ d → IsBetween low high n d ↔ IsBelowAt line lo hi n d

-- the part where the line is below 0, or none
abbrev pub IsPartBelow : Linear → Frac → Frac → Option (Frac × Frac) → Type 0
IsPartBelow line lo hi None = (n d : ℤ) → pos 0 <ℤ d → IsBetween lo hi n d → pos 0 ≤ℤ line_value line.b line.c n d
IsPartBelow line lo hi (Some part) = IsExactPart line lo hi part.0 part.1
