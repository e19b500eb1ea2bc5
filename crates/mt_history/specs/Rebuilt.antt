-- Entries that rebuild a picture, and what is wrong with those that rebuild none.
use Rattle.std.specs.Prelude.{◌≡◌, ℕ, List, take, slice_get, Some, Err, ⊤}
use Rattle.mt_base.specs.declared.command.Entry.{Entry}
use Rattle.mt_base.specs.declared.command.Refusal.{Refusal}
use Rattle.mt_base.specs.Bounds.{IsBoundedCommand}
use Rattle.mt_base.specs.Decision.{IsDecided, filled}
use Rattle.mt_base.specs.Effect.{state_of}
use Rattle.mt_base.specs.History.{IsInTime, IsReplayable}
use Rattle.mt_base.specs.Tables.{Setup}
use Rattle.mt_history.specs.declared.following.FollowNo.{FollowNo}
use Rattle.mt_history.specs.declared.following.FollowNo.TheVariants as no
use Rattle.mt_history.specs.declared.rebuilding.Wrong.{Wrong}
use Rattle.mt_history.specs.declared.rebuilding.Wrong.TheVariants.{Illegal, Late, Memory}

-- a bounded entry whose clearance says when it holds. So no moment fills that in.
pub record IsReadyToDecide (e : Entry) : Type 0 where
  pub bounded : IsBoundedCommand e.command
  pub timed : (now : ℕ) → filled now e.command ≡ e.command

-- the entries before this place can be replayed; this one's command is refused. It comes in time. Places are counted from 0.
pub record IsIllegalAt (setup : Setup) (entries : List Entry) (at : ℕ) (refusal : Refusal) : Type 0 where
  pub entry : Entry
  pub is : slice_get entries at ≡ Some entry
  pub before : IsReplayable setup (take at entries)
  pub in_time : IsInTime at entry.command
  pub refused : IsDecided setup (state_of setup (take at entries)) entry.who entry.command (Err refusal)

-- the entries before this place can be replayed; this one was probed later. At a version after its place.
pub record IsLateAt (setup : Setup) (entries : List Entry) (at : ℕ) : Type 0 where
  pub entry : Entry
  pub is : slice_get entries at ≡ Some entry
  pub before : IsReplayable setup (take at entries)
  pub late : ¬ IsInTime at entry.command

-- what is first wrong with entries, or no memory
abbrev pub IsWrong : Setup → List Entry → Wrong → Type 0
IsWrong setup entries (Illegal at refusal) = IsIllegalAt setup entries at refusal
IsWrong setup entries (Late at) = IsLateAt setup entries at
IsWrong setup entries Memory = ⊤

-- why an entry isn't followed, as what is wrong
abbrev pub wrong_of : FollowNo → Wrong
wrong_of (no.Illegal version refusal) = Illegal version refusal
wrong_of (no.Late version) = Late version
wrong_of no.Memory = Memory
