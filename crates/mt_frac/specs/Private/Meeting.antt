-- No public contract names these: they are of private steps and of proofs.
use Rattle.std.specs.Prelude.{ℤ, pos, ◌*ℤ◌, ◌≤ℤ◌, ◌<ℤ◌, ◌↔◌, Some, None}
use Rattle.std.specs.declared.option.Option.{Option}
use Rattle.mt_frac.specs.declared.linear.Linear.{Linear}
use Rattle.mt_frac.specs.declared.end.End.{End}
use Rattle.mt_frac.specs.Polynomials.{line_value}

-- n/d lies strictly between m/e and x/y
pub record Lies (m e x y n d : ℤ) : Type 0 where
  pub after : (m *ℤ d) <ℤ (n *ℤ e)
  pub until : (n *ℤ y) <ℤ (x *ℤ d)

-- l/f and h/g are in order, and a fraction lies strictly between them exactly where it does between m/e and x/y with the line below 0
pub record IsCut (b c m e x y l f h g : ℤ) : Type 0 where
  pub ordered : (l *ℤ g) <ℤ (h *ℤ f)
  pub exact : (n d : ℤ) → pos 0 <ℤ d → Lies l f h g n d ↔ (Lies m e x y n d × (line_value b c n d <ℤ pos 0))

-- the part between two ends on which the line is below 0, or none where it is 0 or above everywhere between them
abbrev pub CutsTo : Linear → End → End → Option (End × End) → Type 0
CutsTo line low high None = (n d : ℤ) → pos 0 <ℤ d → Lies low.num low.den high.num high.den n d → pos 0 ≤ℤ line_value line.b line.c n d
CutsTo line low high (Some part) = IsCut line.b line.c low.num low.den high.num high.den part.0.num part.0.den part.1.num part.1.den
