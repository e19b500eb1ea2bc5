use Rattle.std.specs.Prelude.{◌≡◌, ℕ, zero, suc, ◌+◌, ◌-◌, ◌≤◌, ◌^◌, min}

-- one more, up to 2^64 - 1
abbrev pub raised : ℕ → ℕ
raised count = min (count + 1) (2 ^ 64 - 1)

-- raised so many times by one
abbrev pub raised_by : ℕ → ℕ → ℕ
raised_by zero count = count
raised_by (suc more) count = raised (raised_by more count)

-- a count was raised at most so many times
pub record RoseUpTo (most old new : ℕ) : Type 0 where
  pub more : ℕ
  pub within : more ≤ most
  pub is : new ≡ raised_by more old
