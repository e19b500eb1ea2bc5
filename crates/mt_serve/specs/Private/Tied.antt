-- No public contract names these: they are of private steps and of proofs.
use Rattle.std.specs.Prelude.{◌≡◌, ◌≤◌, ◌+◌, ℕ, List, map, length, All}
use Rattle.mt_base.specs.declared.command.Entry.{Entry}
use Rattle.mt_base.specs.Tables.{Setup}
use Rattle.mt_io.specs.Door.{Count, Gains}
use Rattle.mt_io.specs.declared.source.Source as Source
use Rattle.mt_io.specs.declared.sink.Sink as Sink
use Rattle.mt_turn.specs.Seats.{SeatNow}
use Rattle.mt_serve.specs.Serving.{HasServed}
use Rattle.mt_serve.specs.Sitting.{SessionRun}
use Rattle.mt_serve.specs.Tied.{Doorway}

-- `ends_of`, `gave_back`: the seats that sessions gave back; the counts with so many links back more
abbrev pub ends_of : {L : Type 0} → List (SessionRun L) → List (SeatNow Entry Setup)
ends_of {L} runs = map (λ (m : SessionRun L). m.seat) runs

abbrev pub gave_back : Count → ℕ → Count
gave_back c n = record c { back = c.back + n }

-- these links came back to the door, in order. None was taken from it, and its faults didn't fall.
pub record HasTakenBack {L : Type 0} (before after : Doorway L) (links : List L) : Type 0 where
  pub count : after.count ≡ gave_back before.count (length links)
  pub still : after.still ≡ before.still
  pub returned : Gains before.returned after.returned links
  pub faults : before.faults ≤ after.faults

module _ {L : Type 0} (source : Source.Ghosts L) (sink : Sink.Ghosts L) where
  -- each session served its link
  abbrev pub AreOver : List (SessionRun L) → Type 0
  AreOver runs = All (λ (m : SessionRun L). HasServed source sink m.from.link m.from.seat m.from.has_channel m.link m.seat m.outcome) runs
