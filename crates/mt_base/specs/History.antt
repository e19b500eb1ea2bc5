-- Which histories can be replayed, and which are legal.
use Rattle.std.specs.Prelude.{◌≡◌, ℕ, List, [], take, slice_get, Some, None, Ok, ◌≤◌, ⊤}
use Rattle.mt_base.specs.declared.command.Command.{Command}
use Rattle.mt_base.specs.declared.command.Command.TheVariants.{Accept}
use Rattle.mt_base.specs.declared.command.Entry.{Entry}
use Rattle.mt_base.specs.WhatIf.{IsWhatIf}
use Rattle.mt_base.specs.Tables.{Setup}
use Rattle.mt_base.specs.Decision.{IsDecided}
use Rattle.mt_base.specs.Effect.{state_of}

-- a command was probed at no version after its place
abbrev pub IsInTime : ℕ → Command → Type 0
IsInTime place (Accept call clearance eff probed) = probed ≤ place
IsInTime place command = ⊤

-- each entry is what is decided on the entries before it. None was probed at a version after its place.
abbrev pub IsReplayable : Setup → List Entry → Type 0
IsReplayable setup h = (i : ℕ) (e : Entry) → slice_get h i ≡ Some e
    → IsDecided setup (state_of setup (take i h)) e.who e.command (Ok e) × IsInTime i e.command

-- a probed clearance was free at the version probed
abbrev pub WasFree : Setup → List Entry → Command → Type 0
WasFree setup h (Accept call clearance eff probed) = IsWhatIf setup (state_of setup (take probed h)) call clearance (Some eff) (Ok [])
WasFree setup h command = ⊤

-- a replayable history, each accepted clearance free when probed
pub record IsLegal (setup : Setup) (h : List Entry) : Type 0 where
  pub replayable : IsReplayable setup h
  pub free : (i : ℕ) (e : Entry) → slice_get h i ≡ Some e → WasFree setup h e.command
