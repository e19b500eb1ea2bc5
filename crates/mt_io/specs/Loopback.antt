-- A port of loopback, at which a door listens.
use Rattle.std.specs.Prelude.{ℕ, Bool}
use Rattle.mt_io.specs.Door.{Count}

-- what it tells of its last `listen` that succeeded and since, whether it listens, and how often it has failed
pub record Port : Type 0 where
  pub links : Count
  pub listens : Bool
  pub faults : ℕ
