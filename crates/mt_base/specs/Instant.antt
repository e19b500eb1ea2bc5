use Rattle.std.specs.Prelude.{ℤ, ◌+ℤ◌, ◌*ℤ◌}

-- a value at instant n/d of a second, times d. With 0 ≤ n < d; times d it is whole.
abbrev pub value_at : ℤ → ℤ → ℤ → ℤ → ℤ
value_at value gain n d = value *ℤ d +ℤ gain *ℤ n
