-- Conditions P on a fraction n/d, and the seconds of which they hold at some instant. The instant n/d of second k, with 0 ≤ n < d, is the
-- fraction (n + k d)/d.
use Rattle.std.specs.Prelude.{ℕ, ℤ, pos, ◌+ℤ◌, ◌*ℤ◌, ◌≤ℤ◌, ◌<ℤ◌}

-- P holds at some instant of second k
pub record HoldsIn (P : ℤ → ℤ → Type 0) (k : ℕ) : Type 0 where
  pub n : ℤ
  pub d : ℤ
  pub begun : pos 0 ≤ℤ n
  pub within : n <ℤ d
  pub holds : P (n +ℤ pos k *ℤ d) d
