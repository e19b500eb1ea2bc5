-- What some of a range of seconds have.
use Rattle.std.specs.Prelude.{ℕ, ◌<◌, ◌≤◌}

-- some second from low up to high has P
pub record HasSome (P : ℕ → Type 0) (low high : ℕ) : Type 0 where
  pub k : ℕ
  pub begun : low ≤ k
  pub ahead : k < high
  pub holds : P k
