-- Entries as a history keeps them.
use Rattle.std.specs.Prelude.{◌≡◌, ◌<◌, ◌^◌, true, All, is_some, ⊤}
use Rattle.mt_base.specs.declared.clearance.Clearance.{Clearance}
use Rattle.mt_base.specs.declared.clearance.Clearance.TheVariants.{Level, Direct}
use Rattle.mt_base.specs.declared.command.Command.{Command}
use Rattle.mt_base.specs.declared.command.Command.TheVariants as command
use Rattle.mt_base.specs.declared.command.Entry.{Entry}
use Rattle.mt_base.specs.Bounds.{IsBoundedCommand}
use Rattle.mt_base.specs.Name.{IsCallsign, IsFixName, IsTypeName}

-- a level, or direct to a fix name
abbrev pub IsNamedClearance : Clearance → Type 0
IsNamedClearance (Level level) = ⊤
IsNamedClearance (Direct fix) = IsFixName fix

-- the names in a command are names
abbrev pub HasNames : Command → Type 0
HasNames (command.Plan call kind route at from level rvsm) = IsCallsign call × IsTypeName kind × All IsFixName route
HasNames (command.External call straight) = IsCallsign call
HasNames (command.Drop call) = IsCallsign call
HasNames (command.Report call report) = IsCallsign call
HasNames (command.Tick now) = ⊤
HasNames (command.Renew call) = IsCallsign call
HasNames (command.Clear call clearance eff) = IsCallsign call × IsNamedClearance clearance
HasNames (command.Accept call clearance eff probed) = IsCallsign call × IsNamedClearance clearance
HasNames (command.Tentative call clearance eff) = IsCallsign call × IsNamedClearance clearance
HasNames (command.Withdraw call force) = IsCallsign call
HasNames (command.Commit call) = IsCallsign call

-- a clearance says from when it holds
abbrev pub IsTimed : Command → Type 0
IsTimed (command.Clear call clearance eff) = is_some eff ≡ true
IsTimed (command.Tentative call clearance eff) = is_some eff ≡ true
IsTimed command = ⊤

-- an entry is complete: names, times, bounds, a 32-bit actor
pub record IsComplete (e : Entry) : Type 0 where
  pub names : HasNames e.command
  pub timed : IsTimed e.command
  pub bounded : IsBoundedCommand e.command
  pub who : e.who < 2 ^ 32
