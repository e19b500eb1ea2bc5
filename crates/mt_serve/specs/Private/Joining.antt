-- No public contract names these: they are of private steps and of proofs.
-- Seats that were joined so far.
use Rattle.std.specs.Prelude.{◌≡◌, List, ◌++◌, All}
use Rattle.mt_base.specs.declared.command.Entry.{Entry}
use Rattle.mt_base.specs.Tables.{Setup}
use Rattle.mt_desk.specs.Desk.{Desk, IsSeatOfDesk}
use Rattle.mt_io.specs.declared.source.Source as Source
use Rattle.mt_io.specs.declared.sink.Sink as Sink
use Rattle.mt_turn.specs.declared.view.View.{View}
use Rattle.mt_turn.specs.Seats.{SeatNow}
use Rattle.mt_serve.specs.Private.Seating.{HasJoined, views_of}
use Rattle.mt_serve.specs.Sitting.{SessionRun}
use Rattle.mt_serve.specs.declared.counts.Counts.{Counts}
use Rattle.mt_serve.specs.Summary.{counted}
use Rattle.mt_serve.specs.Tied.{Doorway, backs_of}
use Rattle.mt_serve.specs.Private.Tied.{AreOver, HasTakenBack, ends_of}
use Rattle.mt_serve.specs.Private.Working.{rests_of}
use Rattle.mt_serve.specs.Working.{IsRested, Worked}

-- `JoinsSeats`, `JoinsWorkers`, `JoinsSessions`: the first seats of a list are joined, and others are left; so for workers, and for sessions
pub record JoinsSeats (desk : Desk) (v w : View Entry Setup) (all rest : List (SeatNow Entry Setup)) : Type 0 where
  pub past : List (SeatNow Entry Setup)
  pub parts : all ≡ past ++ rest
  pub joined : HasJoined v w (views_of past)
  pub ready : All (IsSeatOfDesk desk) rest

pub record JoinsWorkers (desk : Desk) (v w : View Entry Setup) (all rest : List Worked) : Type 0 where
  pub past : List Worked
  pub parts : all ≡ past ++ rest
  pub joined : HasJoined v w (views_of (rests_of past))
  pub ready : All (λ (x : Worked). IsSeatOfDesk desk x.from) rest
  pub worked : All IsRested past

module _ {L : Type 0} (source : Source.Ghosts L) (sink : Sink.Ghosts L) where
  pub record JoinsSessions (desk : Desk) (v w : View Entry Setup) (all rest : List (SessionRun L)) (before after : Doorway L) (counts : Counts) : Type 0 where
    pub past : List (SessionRun L)
    pub parts : all ≡ past ++ rest
    pub joined : HasJoined v w (views_of (ends_of past))
    pub ready : All (λ (x : SessionRun L). IsSeatOfDesk desk x.from.seat) rest
    pub served : AreOver source sink past
    pub door : HasTakenBack before after (backs_of past)
    pub counts_are : counts ≡ counted past
