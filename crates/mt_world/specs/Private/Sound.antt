-- No public contract names these: they are of private steps and of proofs.
-- What ties a world's actors to its picture.
use Rattle.std.specs.Prelude.{◌≡◌, ◌≤◌, ℕ, List, length, map, take, All, Option, Ok, Err, ⊤, unwrap_or}
use Rattle.mt_base.specs.declared.clearance.Clearance.{Clearance}
use Rattle.mt_base.specs.declared.command.Entry.{Entry}
use Rattle.mt_base.specs.Advice.{IsAdvice}
use Rattle.mt_base.specs.Effect.{state_of}
use Rattle.mt_base.specs.History.{IsLegal}
use Rattle.mt_base.specs.Tables.{Setup}
use Rattle.mt_base.specs.WhatIf.{IsWhatIf}
use Rattle.mt_board.specs.declared.no.No.{No}
use Rattle.mt_board.specs.declared.no.No.TheVariants as nos
use Rattle.mt_board.specs.Probing.{free_probe}
use Rattle.mt_board.specs.Book.{told_book}
use Rattle.mt_picture.specs.Story.{Story}
use Rattle.mt_probe.specs.Hits.{Trial, told_of}
use Rattle.mt_probe.specs.Shot.{Shot}
use Rattle.mt_probe.specs.Shot.{state_in_shot as state_in}
use Rattle.mt_world.specs.declared.actor.Actor.{Actor}
use Rattle.mt_world.specs.World as world
use Rattle.mt_world.specs.World.{World, actor_of, picture_taken, setup_of}

-- a world as its picture sees it
abbrev pub story_of : World → Story
story_of w = record { setup = setup_of w; history = w.history }

-- `IsTakenOf`, `IsKeptOf`: a snapshot, and a kept probe's state, are those of the first entries. As many as the version says.
pub record IsTakenOf (setup : Setup) (h : List Entry) (shot : Shot) : Type 0 where
  pub setup_is : shot.setup ≡ setup
  pub past : shot.version ≤ length h
  pub state_is : state_in shot ≡ state_of setup (take shot.version h)

abbrev pub IsKeptOf : Setup → List Entry → Trial → Type 0
IsKeptOf setup h p = IsTakenOf setup h p.shot

-- an actor has taken a snapshot of the history, and its book has probes of it
pub record IsSoundActor (setup : Setup) (h : List Entry) (actor : Actor) : Type 0 where
  pub taken : IsTakenOf setup h actor.taken
  pub kept : All (IsKeptOf setup h) actor.book.last

-- the history is legal, and there are sixteen actors, each of which is sound
pub record IsSoundWorld (story : Story) (actors : List Actor) : Type 0 where
  pub legal : IsLegal story.setup story.history
  pub sixteen : length actors ≡ 16
  pub each : All (IsSoundActor story.setup story.history) actors

-- an actor as the definition has it
abbrev pub actor_shown : Actor → world.Actor
actor_shown actor = record { taken = actor.taken.version; book = told_book told_of actor.book }

-- what was tried, in order
abbrev pub clearances_of : List Trial → List Clearance
clearances_of ps = map (λ (p : Trial). p.clearance) ps

-- `IsProbeOf`, `IsUnprobedOf`: a clearance's probe on the snapshot that an actor has taken, or its refusal there
pub record IsProbeOf (w : World) (who : ℕ) (call : List ℕ) (clearance : Clearance) (eff : Option ℕ) (p : Trial) : Type 0 where
  pub call_is : p.call ≡ call
  pub clearance_is : p.clearance ≡ clearance
  pub eff_is : p.eff ≡ unwrap_or eff (picture_taken w who).now
  pub version_is : p.shot.version ≡ (actor_of w who).taken
  pub follows : IsWhatIf (setup_of w) (picture_taken w who) call clearance eff (Ok p.hits)

abbrev pub IsUnprobedOf : World → ℕ → List ℕ → Clearance → Option ℕ → No → Type 0
IsUnprobedOf w who call clearance eff (nos.Refused refusal version) =
    IsWhatIf (setup_of w) (picture_taken w who) call clearance eff (Err refusal) × (version ≡ (actor_of w who).taken)
IsUnprobedOf w who call clearance eff nos.Memory = ⊤

-- `IsAdvisedOf`, `IsUnadvisedOf`: the probes advised on that snapshot, in order, or the refusal of advice there
pub record IsAdvisedOf (w : World) (who : ℕ) (call : List ℕ) (eff version : ℕ) (probes : List Trial) : Type 0 where
  pub eff_is : eff ≡ (picture_taken w who).now
  pub version_is : version ≡ (actor_of w who).taken
  pub clearances : List Clearance
  pub advice : IsAdvice (setup_of w) (picture_taken w who) call (Ok clearances)
  pub told : map told_of probes ≡ map (free_probe call eff version) clearances
  pub few : length probes ≤ 16

abbrev pub IsUnadvisedOf : World → ℕ → List ℕ → No → Type 0
IsUnadvisedOf w who call (nos.Refused refusal version) =
    IsAdvice (setup_of w) (picture_taken w who) call (Err refusal) × (version ≡ (actor_of w who).taken)
IsUnadvisedOf w who call nos.Memory = ⊤
