-- Values and slopes of polynomials at the fraction n/d, made whole by a power of d. For a positive d their signs are those of the values and slopes.
use Rattle.std.specs.Prelude.{ℤ, pos, ◌+ℤ◌, ◌-ℤ◌, ◌*ℤ◌}

-- a quadratic's value at n/d, times d^2
abbrev pub value : ℤ → ℤ → ℤ → ℤ → ℤ → ℤ
value a b c n d = a *ℤ n *ℤ n +ℤ b *ℤ n *ℤ d +ℤ c *ℤ d *ℤ d

-- a line's value at n/d, times d
abbrev pub line_value : ℤ → ℤ → ℤ → ℤ → ℤ
line_value b c n d = b *ℤ n +ℤ c *ℤ d

-- d times 2 a s + b, the slope of a s^2 + b s + c, at s = n/d
abbrev pub slope : ℤ → ℤ → ℤ → ℤ → ℤ
slope a b n d = pos 2 *ℤ a *ℤ n +ℤ b *ℤ d

-- b^2 - 4 a c
abbrev pub discriminant_of : ℤ → ℤ → ℤ → ℤ
discriminant_of a b c = b *ℤ b -ℤ pos 4 *ℤ a *ℤ c
