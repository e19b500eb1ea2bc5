-- No public contract names these: they are of private steps and of proofs.
-- What a command does that passes its checks.
use Rattle.std.specs.Prelude.{◌≡◌, ℕ, Option, Some, None, ⊤}
use Rattle.mt_base.specs.declared.command.Command.{Command}
use Rattle.mt_base.specs.declared.command.Command.TheVariants.{Drop, External, Plan, Tick}
use Rattle.mt_base.specs.declared.hit.Hit.{Hit}
use Rattle.mt_base.specs.declared.verdict.Verdict.{Verdict}
use Rattle.mt_probe.specs.Prepared.{IsSlotNamed}
use Rattle.mt_probe.specs.Shot.{IsFreeIn, Shot}
use Rattle.mt_picture.specs.declared.effect.Effect.{Effect}
use Rattle.mt_picture.specs.declared.effect.Effect.TheVariants as effects
use Rattle.mt_picture.specs.declared.enter.Upshot.{Upshot}
use Rattle.mt_picture.specs.declared.enter.Upshot.TheVariants.{Entered, Stopped}
use Rattle.mt_picture.specs.Private.Entries.{IsRemaking, IsReport, IsWithdrawal}
use Rattle.mt_picture.specs.Stamps.{IsFiling}

-- a command names a flight that has to be there
abbrev pub IsOfFlight : Command → Type 0
IsOfFlight (Plan call kind route at from level rvsm) = ⊥
IsOfFlight (External call straight) = ⊥
IsOfFlight (Tick now) = ⊥
IsOfFlight command = ⊤

-- the slot of the flight that a command names, where that is there, by its effect
abbrev pub slot_by : Effect → Option ℕ
slot_by (effects.File slot) = None
slot_by (effects.Remake slot) = Some slot
slot_by (effects.Report slot) = Some slot
slot_by (effects.Withdraw slot) = Some slot
slot_by (effects.Remove slot) = Some slot
slot_by (effects.Tick now) = None

-- a command takes a flight away
abbrev pub IsDrop : Command → Type 0
IsDrop (Drop call) = ⊤
IsDrop command = ⊥

-- what a command does, by its effect
abbrev pub Does : Shot → Command → Effect → Type 0
Does shot command (effects.File slot) = IsFiling command × IsFreeIn shot.slots (Some slot)
Does shot command (effects.Remake slot) = IsRemaking command
Does shot command (effects.Report slot) = IsReport command
Does shot command (effects.Withdraw slot) = IsWithdrawal command
Does shot command (effects.Remove slot) = IsDrop command
Does shot command (effects.Tick now) = command ≡ Tick now

-- the effect of a command: what it does, and the slot of the flight that it names
pub record IsEffectOn (shot : Shot) (command : Command) (effect : Effect) : Type 0 where
  pub named : IsSlotNamed shot command (slot_by effect)
  pub does : Does shot command effect

-- `hit_in`, `HasVerdict`: the hit that stopped a command, or the verdict with which it was entered
abbrev pub hit_in : Upshot → Option Hit
hit_in (Entered verdict) = None
hit_in (Stopped hit) = Some hit

abbrev pub HasVerdict : Option Verdict → Upshot → Type 0
HasVerdict is (Entered verdict) = verdict ≡ is
HasVerdict is (Stopped hit) = ⊤
