-- No public contract names these: they are of private steps and of proofs.
-- What the value and the slope at one instant say about those before and after it.
use Rattle.std.specs.Prelude.{ℤ, pos, ◌<ℤ◌, ◌≤ℤ◌}

-- not below 0 here, and falling
pub record IsFalling (value slope : ℤ) : Type 0 where
  pub here : pos 0 ≤ℤ value
  pub falls : slope <ℤ pos 0

-- not below 0 here, and not falling
pub record IsSooner (value slope : ℤ) : Type 0 where
  pub here : pos 0 ≤ℤ value
  pub rises : pos 0 ≤ℤ slope
