-- A picture as its callers see it, and what a command is answered.
use Rattle.std.specs.Prelude.{◌≡◌, ℕ, ◌≤◌, List, [], ◌∷◌, ◌++◌, length, take, slice_get, is_some, true, Option, Some, None, Ok, Err, ⊤}
use Rattle.mt_base.specs.declared.command.Command.{Command}
use Rattle.mt_base.specs.declared.command.Command.TheVariants.{Tentative}
use Rattle.mt_base.specs.declared.command.Entered.{Entered}
use Rattle.mt_base.specs.declared.command.Entry.{Entry}
use Rattle.mt_base.specs.Decision.{IsDecided, call_of, filled}
use Rattle.mt_base.specs.Effect.{entered_by, state_of}
use Rattle.mt_base.specs.Picture.{flight_of}
use Rattle.mt_base.specs.Tables.{Setup}
use Rattle.mt_board.specs.declared.no.No.{No}
use Rattle.mt_board.specs.declared.no.No.TheVariants as nos
use Rattle.mt_probe.specs.Prepared.{MakesStrand, Prepared}

-- a picture as callers see it: rules, tables, history
pub record Story : Type 0 where
  pub setup : Setup
  pub history : List Entry

-- a tentative clearance is prepared for its actor. Of any other command it doesn't matter for whom.
abbrev pub IsPreparedFor : Command → ℕ → ℕ → Type 0
IsPreparedFor (Tentative call clearance eff) who preparer = preparer ≡ who
IsPreparedFor command who preparer = ⊤

-- a preparation of this command, on an earlier version of this history
pub record IsPrepFor (story : Story) (who : ℕ) (command : Command) (p : Prepared) : Type 0 where
  pub makes : MakesStrand command
  pub setup_is : p.setup ≡ story.setup
  pub command_is : p.command ≡ command
  pub who_is : IsPreparedFor command who p.who
  pub within : p.state.version ≤ length story.history
  pub state_is : p.state ≡ state_of story.setup (take p.state.version story.history)

-- a preparation comes exactly with a command that makes a trajectory
abbrev pub IsPrepGivenFor : Story → ℕ → Command → Option Prepared → Type 0
IsPrepGivenFor story who command None = MakesStrand command → ⊥
IsPrepGivenFor story who command (Some p) = IsPrepFor story who command p

-- an entry after the first n names that callsign
pub record IsNamedAfter (h : List Entry) (n : ℕ) (call : List ℕ) : Type 0 where
  pub place : ℕ
  pub entry : Entry
  pub later : n ≤ place
  pub is : slice_get h place ≡ Some entry
  pub names : call_of entry.command ≡ Some call

-- a flight has that callsign now, and an entry after the first n names it
pub record IsFlightNamedAfter (story : Story) (n : ℕ) (call : List ℕ) : Type 0 where
  pub there : is_some (flight_of (state_of story.setup story.history).records call) ≡ true
  pub named : IsNamedAfter story.history n call

-- no entry since names the preparation's flight, where it is there now, and a moment left open is still its own. What the command leaves to the moment
-- is as it was then.
pub record IsUsable (story : Story) (command : Command) (p : Prepared) : Type 0 where
  pub same_flight : (call : List ℕ) → call_of command ≡ Some call → ¬ IsFlightNamedAfter story p.state.version call
  pub same_moment : filled p.state.now command ≡ filled (state_of story.setup story.history).now command

-- a command is entered as decided, one entry more
pub record IsEntered (before after : Story) (who : ℕ) (command : Command) (entered : Entered) : Type 0 where
  pub entry : Entry
  pub decided : IsDecided before.setup (state_of before.setup before.history) who command (Ok entry)
  pub same : after.setup ≡ before.setup
  pub longer : after.history ≡ before.history ++ entry ∷ []
  pub answered : entered ≡ entered_by before.setup (state_of before.setup before.history) entry

-- a command is refused as decided, at the history's version; or memory ran out
abbrev pub IsCommandRefused : Story → ℕ → Command → No → Type 0
IsCommandRefused story who command (nos.Refused refusal version) =
    IsDecided story.setup (state_of story.setup story.history) who command (Err refusal) × (version ≡ length story.history)
IsCommandRefused story who command nos.Memory = ⊤
