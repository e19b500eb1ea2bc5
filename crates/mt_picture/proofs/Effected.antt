-- What follows from the effect of a command.
use Rattle.std.proofs.Common.{◌≡◌, ℕ, List, Bool, Some, refl}
use Rattle.mt_base.specs.declared.command.Command.{Command}
use Rattle.mt_base.specs.declared.command.Command.TheVariants.{Drop, External, Plan, Tick, Withdraw}
use Rattle.mt_base.specs.declared.command.Command.TheVariants as commands
use Rattle.mt_base.specs.declared.flight.Straight.{Straight}
use Rattle.mt_base.specs.Decision.{filled}
use Rattle.mt_probe.specs.Prepared.{IsSlotNamed, MakesStrand}
use Rattle.mt_probe.specs.Shot.{Shot}
use Rattle.mt_picture.specs.declared.effect.Effect.{Effect}
use Rattle.mt_picture.specs.declared.effect.Effect.TheVariants as effects
use Rattle.mt_picture.specs.Private.Effects.{Does, IsDrop, IsOfFlight}
use Rattle.mt_picture.specs.Private.Putting.{IsFlightTaken}
use Rattle.mt_picture.proofs.Passing.{slot_there}

-- a command that neither files nor ticks names a flight that has to be there
pub of_flight : (c : Command)
    → ((call kind : List ℕ) (route : List (List ℕ)) (at from level : ℕ) (rvsm : Bool) → c ≡ Plan call kind route at from level rvsm → ⊥)
    → ((call : List ℕ) (straight : Straight) → c ≡ External call straight → ⊥) → ((now : ℕ) → c ≡ Tick now → ⊥) → IsOfFlight c
of_flight (Plan call kind route at from level rvsm) no_plan no_external no_tick = absurd (no_plan call kind route at from level rvsm refl)
of_flight (External call straight) no_plan no_external no_tick = absurd (no_external call straight refl)
of_flight (Tick now) no_plan no_external no_tick = absurd (no_tick now refl)
of_flight c no_plan no_external no_tick = tt

-- a command that makes a trajectory files or remakes, and no other does
pub makes_by : (shot : Shot) (c : Command) (e : Effect) → MakesStrand c → Does shot c e → ((slot : ℕ) → e ≡ effects.File slot → ⊥)
    → ((slot : ℕ) → e ≡ effects.Remake slot → ⊥) → ⊥
makes_by shot c (effects.File slot) makes does no_file no_remake = no_file slot refl
makes_by shot c (effects.Remake slot) makes does no_file no_remake = no_remake slot refl
makes_by shot (commands.Report call report) (effects.Report slot) makes does no_file no_remake = makes
makes_by shot c (effects.Report slot) makes does no_file no_remake = does
makes_by shot (Withdraw call force) (effects.Withdraw slot) makes does no_file no_remake = makes
makes_by shot c (effects.Withdraw slot) makes does no_file no_remake = does
makes_by shot (Drop call) (effects.Remove slot) makes does no_file no_remake = makes
makes_by shot c (effects.Remove slot) makes does no_file no_remake = does
makes_by shot c (effects.Tick now) makes does no_file no_remake = rw does at makes

-- the entry of a command that takes a flight away
pub taken_by : (shot : Shot) (slot who : ℕ) (c : Command) → IsDrop c → IsSlotNamed shot c (Some slot)
    → IsFlightTaken shot slot (record { who = who; command = filled shot.now c })
taken_by shot slot who (Drop call) drops named = record { call = call; there = slot_there shot (Drop call) slot call named refl; drops = refl }
taken_by shot slot who c drops named = absurd drops
