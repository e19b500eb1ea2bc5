-- No public contract names these: they are of private steps and of proofs.
-- What a picture holds, and how a command leaves it.
use Rattle.std.specs.Prelude.{◌≡◌, ℕ, List, Option, None, Ok, Result, MatchResult}
use Rattle.mt_base.specs.declared.command.Command.{Command}
use Rattle.mt_base.specs.declared.command.Entry.{Entry}
use Rattle.mt_base.specs.declared.hit.Hit.{Hit}
use Rattle.mt_base.specs.Checks.{judged}
use Rattle.mt_base.specs.Decision.{checks, filled, look_at}
use Rattle.mt_kept.specs.Kept.{Watched}
use Rattle.mt_change.specs.Deciding.{IsFirstHit}
use Rattle.mt_probe.specs.Shot.{Shot}
use Rattle.mt_probe.specs.Shot.{state_in_shot as state_in}
use Rattle.mt_picture.specs.declared.enter.Upshot.{Upshot}
use Rattle.mt_picture.specs.Private.Effects.{hit_in}
use Rattle.mt_picture.specs.Private.Putting.{history_after}
use Rattle.mt_picture.specs.Story.{Story}

-- what a picture holds: the snapshot now, the history, and the kept conflicts
pub record Holding : Type 0 where
  pub snapshot : Shot
  pub history : List Entry
  pub kept : Watched

-- a picture's holding as callers see it
abbrev pub held_story : Holding → Story
held_story holding = record { setup = holding.snapshot.setup; history = holding.history }

-- a command passes its checks
abbrev pub IsPassed : Shot → ℕ → Command → Type 0
IsPassed shot who command = judged (checks shot.setup (look_at (state_in shot) command) who command) (tt {0}) ≡ Ok (tt {0})

-- the entry of a command now
abbrev pub entry_now : Shot → ℕ → Command → Entry
entry_now shot who command = record { who = who; command = filled shot.now command }

-- a story after an entry, or with a hit that stopped it
abbrev pub story_after : Story → Entry → Option Hit → Story
story_after story entry first = record { setup = story.setup; history = history_after story.history entry first }

-- the entry was added, or a hit stopped it. Where memory ran out, all that callers see is as it was.
abbrev pub AddsOrStops : {E : Type 0} → Holding → Holding → Entry → Result (Option Hit) E → Type 0
AddsOrStops before after entry result =
    MatchResult result (λ first. held_story after ≡ story_after (held_story before) entry first) (λ err. held_story after ≡ held_story before)

-- the entry was added. Where memory ran out, all that callers see is as it was.
abbrev pub AddsEntry : {T E : Type 0} → Holding → Holding → Entry → Result T E → Type 0
AddsEntry before after entry result =
    MatchResult result (λ done. held_story after ≡ story_after (held_story before) entry None) (λ err. held_story after ≡ held_story before)

-- a command has entered, or has stopped at its first hit. It was probed and has one, and all that callers see is as it was.
pub record HasEnteredOrStopped (before after : Holding) (who : ℕ) (command : Command) (first : Option Hit) : Type 0 where
  pub story : held_story after ≡ story_after (held_story before) (entry_now before.snapshot who command) first
  pub hits : IsFirstHit before.snapshot.setup (state_in before.snapshot) command first

-- `EntersOrStops`, `Goes`: a command has entered or stopped. Where memory ran out, all that callers see is as it was.
abbrev pub EntersOrStops : {E : Type 0} → Holding → Holding → ℕ → Command → Result (Option Hit) E → Type 0
EntersOrStops before after who command result =
    MatchResult result (HasEnteredOrStopped before after who command) (λ err. held_story after ≡ held_story before)

abbrev pub Goes : {E : Type 0} → Holding → Holding → ℕ → Command → Result Upshot E → Type 0
Goes before after who command result =
    MatchResult result (λ upshot. HasEnteredOrStopped before after who command (hit_in upshot)) (λ err. held_story after ≡ held_story before)
