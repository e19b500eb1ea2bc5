use Rattle.std.specs.Prelude.{◌≡◌, ◌≤◌, ℕ, true, length, All}
use Rattle.std.specs.List.{AllByRecursion}
use Rattle.mt_base.specs.declared.command.Command.{Command}
use Rattle.mt_base.specs.Bounds.{IsSoundFlight}
use Rattle.mt_base.specs.Decision.{checks, look_at}
use Rattle.mt_base.specs.Picture.{HaveOwnCalls, State}
use Rattle.mt_base.specs.Tables.{Setup}

-- at most 1,024 sound flights, no two of one callsign, a bounded moment. So is every state that can be reached.
pub record IsSoundState (setup : Setup) (s : State) : Type 0 where
  pub sound : All (IsSoundFlight setup) s.records
  pub own_calls : HaveOwnCalls s.records
  pub few : length s.records ≤ 1024
  pub early : s.now ≤ 10000000
  pub counted : s.version ≤ 4194304

-- an actor's command passes each check in a state
abbrev pub PassesChecks : Setup → State → ℕ → Command → Type 0
PassesChecks setup s who command = AllByRecursion (λ c. c.1 ≡ true) (checks setup (look_at s command) who command)
