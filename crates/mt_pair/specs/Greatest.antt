-- How great the numbers of the pair test get, while two rows keep their gains for at most 14,400 seconds: why 64 bits hold all but the
-- fractions, and 128 bits these.
use Rattle.std.specs.Prelude.{◌≡◌, ℕ, ℤ, pos, neg_ℤ, ◌≤◌, ◌<◌, ◌^◌, ◌<ℤ◌, ◌⊎◌, unsigned_abs, Bool, List, [], ◌∷◌, All, Some}
use Rattle.mt_base.specs.Bounds.{AreWithinBounds, IsWithin}
use Rattle.mt_base.specs.declared.row.Row.{Row}
use Rattle.mt_base.specs.declared.rules.Rules.{Rules}
use Rattle.mt_base.specs.Trajectory.{Trajectory, row_at}
use Rattle.mt_track.specs.Laid.{IsStrand}
use Rattle.mt_frac.specs.declared.linear.Linear.{Linear}
use Rattle.mt_frac.specs.declared.quadratic.Quad.{Quad}
use Rattle.mt_frac.specs.Polynomials.{discriminant_of, value}
use Rattle.mt_pair.specs.Gap.{above_of, excess_of, gap_of, gain_of, offset_of}
use Rattle.mt_pair.specs.High.{level_of}

-- at most that great in size
abbrev pub IsAtMost : ℕ → ℤ → Type 0
IsAtMost most z = IsWithin (neg_ℤ (pos most)) (pos most) z

-- num/den is -c/b, where the line b s + c is 0; the denominator is positive
pub record IsCutBy (line : Linear) (num den : ℤ) : Type 0 where
  pub positive : pos 0 <ℤ den
  pub is : ((num ≡ neg_ℤ line.c) × (den ≡ line.b)) ⊎ ((num ≡ line.c) × (den ≡ neg_ℤ line.b))

-- how great a fraction's numerator and denominator get, and a quadratic at it. The quadratic is made whole by the square of the denominator.
pub record IsFractionWithinSizes (gap : Quad) (num den : ℤ) : Type 0 where
  pub denominator : IsAtMost 40000 den
  pub numerator : unsigned_abs num < 2 ^ 30
  pub value_there : unsigned_abs (value gap.a gap.b gap.c num den) < 2 ^ 85

-- each fraction at which a line is 0 keeps to these sizes
abbrev pub AreCutsWithinSizes : Quad → Linear → Type 0
AreCutsWithinSizes gap line = (num den : ℤ) → IsCutBy line num den → IsFractionWithinSizes gap num den

-- the lines of two rows. Of each: how far above the other it is by the lesser minimum, and by the greater one, and how far below a level.
abbrev pub vertical_lines : Rules → ℤ → Row → Row → List Linear
vertical_lines rules level a b =
    excess_of rules.sv a b ∷ excess_of rules.sv b a ∷ excess_of rules.sv2 a b ∷ excess_of rules.sv2 b a ∷ above_of level a ∷ above_of level b ∷ []

-- how great the numbers of the pair test get, of two rows. They are the differences of x and y, and of their gains; the horizontal minimum with
-- both margins, and what it gains; the difference of the heights with the greater minimum and both margins, and what it gains; the quadratic's
-- three coefficients, and its discriminant; the whole seconds and the fractions at which it is looked at, and the quadratic there.
pub record AreWithinSizes (rules : Rules) (a b : Row) : Type 0 where
  pub x : IsAtMost 7372800 (offset_of rules a b).x
  pub y : IsAtMost 7372800 (offset_of rules a b).y
  pub vx : IsAtMost 2000 (gain_of a b).x
  pub vy : IsAtMost 2000 (gain_of a b).y
  pub width : IsAtMost 216000 (offset_of rules a b).width
  pub width_gain : IsAtMost 2000 (gain_of a b).width
  pub height : IsAtMost 5400000 (excess_of rules.sv2 a b).c
  pub height_gain : IsAtMost 40000 (excess_of rules.sv2 a b).b
  pub leading : IsAtMost 8000000 (gap_of rules a b).a
  pub middle : IsAtMost 59846400000 (gap_of rules a b).b
  pub constant : IsAtMost 108716359680000 (gap_of rules a b).c
  pub discriminant : unsigned_abs (discriminant_of (gap_of rules a b).a (gap_of rules a b).b (gap_of rules a b).c) < 2 ^ 74
  pub wholes : (k : ℕ) → k ≤ 14400 → IsFractionWithinSizes (gap_of rules a b) (pos k) (pos 1)
  pub cuts : (approved : Bool) → All (AreCutsWithinSizes (gap_of rules a b)) (vertical_lines rules (level_of approved) a b)

-- in each second that two trajectories cover, the numbers of their two rows keep to these sizes
abbrev pub NumbersFit : Type 0
NumbersFit = (rules : Rules) (a b : Trajectory) (k : ℕ) (one other : Row) → AreWithinBounds rules → IsStrand a → IsStrand b
    → row_at a k ≡ Some one → row_at b k ≡ Some other → AreWithinSizes rules one other
