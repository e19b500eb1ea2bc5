-- No public contract names these: they are of private steps and of proofs.
use Rattle.std.specs.Prelude.{◌≡◌, ◌<◌, ◌≤◌, ℕ, ◌+◌, Bool, List, [], ◌++◌, length, MatchBool, Option, All}
use Rattle.mt_base.specs.declared.command.Entry.{Entry}
use Rattle.mt_base.specs.Tables.{Setup}
use Rattle.mt_desk.specs.Desk.{Desk, IsSeatOfDesk}
use Rattle.mt_io.specs.Causes.{Rose}
use Rattle.mt_io.specs.Door.{Count, LosesFront}
use Rattle.mt_turn.specs.Seats.{SeatNow}
use Rattle.mt_serve.specs.Sitting.{SessionRun, SessionStart, links_of, seats_of}
use Rattle.mt_serve.specs.Tied.{Doorway}

-- the door gave these links, and each went with the next seat
pub record HasSeatedLinks {L : Type 0} (old new : Count) (still left : Option (List L)) (seats rest : List (SeatNow Entry Setup)) (starts : List (SessionStart L)) : Type 0 where
  pub port : new.port ≡ old.port
  pub sessions : new.sessions ≡ old.sessions
  pub given : new.given ≡ old.given + length starts
  pub back : new.back ≡ old.back
  pub links : LosesFront still left (links_of starts)
  pub seats_are : seats ≡ seats_of starts ++ rest

-- there is a seat for each link that is still to come
abbrev pub IsSeated : Count → List (SeatNow Entry Setup) → Type 0
IsSeated count seats = count.given + length seats ≡ count.sessions

-- the door gave as many links as it was asked for, or it failed while some were to come
abbrev pub IsDoorOver : Bool → Count → ℕ → ℕ → Type 0
IsDoorOver faulted count before now = MatchBool faulted (Rose before now × (count.given < count.sessions)) (count.given ≡ count.sessions)

-- links of the door were served, each with a seat of this desk, until it was over; none is back yet
pub record HasServedLinks {L : Type 0} (desk : Desk) (old new : Doorway L) (seats rest : List (SeatNow Entry Setup)) (starts : List (SessionStart L)) (faulted : Bool) : Type 0 where
  pub begun : HasSeatedLinks old.count new.count old.still new.still seats rest starts
  pub ready : All (IsSeatOfDesk desk) rest
  pub returned : new.returned ≡ old.returned
  pub faults : old.faults ≤ new.faults
  pub over : IsDoorOver faulted new.count old.faults new.faults

-- what it takes to serve links. A seat of this desk for each, and room for so many sessions that run and so many that have ended.
pub record IsReadyToServe {L : Type 0} (desk : Desk) (count : Count) (seats : List (SeatNow Entry Setup)) (many running ended : ℕ)
    (sittings : List (SessionStart L)) (dones : List (SessionRun L)) : Type 0 where
  pub ready : All (IsSeatOfDesk desk) seats
  pub seated : IsSeated count seats
  pub first : many ≤ running
  pub second : many ≤ ended
  pub no_sitting : sittings ≡ []
  pub no_done : dones ≡ []
