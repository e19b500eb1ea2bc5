-- Where several lines are all below 0.
use Rattle.std.specs.Prelude.{◌<◌, ◌^◌, ℤ, pos, ◌*ℤ◌, ◌<ℤ◌, unsigned_abs, List, All}
use Rattle.mt_frac.specs.declared.linear.Linear.{Linear}
use Rattle.mt_frac.specs.Polynomials.{line_value}

-- the sizes that `meet` asks for
pub record IsBoundedSide (line : Linear) : Type 0 where
  pub b_bounded : unsigned_abs line.b < 2 ^ 40
  pub c_bounded : unsigned_abs line.c < 2 ^ 50

-- each of the lines is below 0 at the fraction n/d
abbrev pub AreBelow : List Linear → ℤ → ℤ → Type 0
AreBelow lines n d = All (λ line. line_value line.b line.c n d <ℤ pos 0) lines

-- at some fraction n/d strictly between two whole numbers each of them is
pub record MeetBelow (lines : List Linear) (lo hi : ℤ) : Type 0 where
  pub n : ℤ
  pub d : ℤ
  pub positive : pos 0 <ℤ d
  pub after : (lo *ℤ d) <ℤ n
  pub until : n <ℤ (hi *ℤ d)
  pub below : AreBelow lines n d
