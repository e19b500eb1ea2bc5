-- The order of fractions, by cross products: with positive denominators m/e < n/d says m d < n e.
use Rattle.std.specs.Prelude.{◌≡◌, ℤ, ◌*ℤ◌, ◌<ℤ◌}
use Rattle.mt_frac.specs.declared.fraction.Frac.{Frac}

-- fraction f is less than g
abbrev pub IsBefore : Frac → Frac → Type 0
IsBefore f g = (f.num *ℤ g.den) <ℤ (g.num *ℤ f.den)

-- f and g are equal numbers
abbrev pub IsSame : Frac → Frac → Type 0
IsSame f g = f.num *ℤ g.den ≡ g.num *ℤ f.den

-- n/d lies strictly between lo and hi
pub record IsBetween (lo hi : Frac) (n d : ℤ) : Type 0 where
  pub after : (lo.num *ℤ d) <ℤ (n *ℤ lo.den)
  pub until : (n *ℤ hi.den) <ℤ (hi.num *ℤ d)
