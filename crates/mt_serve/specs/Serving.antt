-- What a session makes of a link and a seat.
use Rattle.std.specs.Prelude.{◌≡◌, Bool, true, false, Option, Some, None}
use Rattle.mt_base.specs.declared.command.Entry.{Entry}
use Rattle.mt_base.specs.Tables.{Setup}
use Rattle.mt_desk.specs.Desk.{seat_of}
use Rattle.mt_io.specs.declared.source.Source as Source
use Rattle.mt_io.specs.declared.sink.Sink as Sink
use Rattle.mt_session.specs.declared.outcome.Outcome.{Outcome}
use Rattle.mt_session.specs.Run.{IsSession, Link}
use Rattle.mt_turn.specs.declared.view.Phase.TheVariants.{Idle}
use Rattle.mt_turn.specs.Lending.{AreViewsOfOneSeat}
use Rattle.mt_turn.specs.Seats.{SeatNow}
use Rattle.mt_workers.specs.Jobs.{Jobs}

-- a session's outbox, by whether it has a channel. With a channel one whose jobs are unknown, and none without.
abbrev pub outbox_of : Bool → Option (Option Jobs)
outbox_of true = Some None
outbox_of false = None

module _ {L : Type 0} (source : Source.Ghosts L) (sink : Sink.Ghosts L) where
  -- a link's bytes and faults
  abbrev pub link_of : L → Link
  link_of a = record { left = source.left a; held = sink.held a; read_faults = source.faults a; write_faults = sink.faults a }

  -- a session of this seat answered this link's lines, and ended with this outcome. It had a channel or not; it left the link b and the seat `after`,
  -- which is the same seat of the same turn and doesn't hold it. Its lines and replies are those of a session by what the seat knew and knows.
  pub record HasServed (a : L) (before : SeatNow Entry Setup) (has_channel : Bool) (b : L) (after : SeatNow Entry Setup) (outcome : Outcome) : Type 0 where
    pub home : after.home ≡ before.home
    pub idle : after.view.phase ≡ Idle
    pub same : AreViewsOfOneSeat before.view after.view
    pub fixed : Setup
    pub fixed_is : before.view.fixed ≡ Some fixed
    pub session : IsSession (seat_of fixed before.view) (seat_of fixed after.view) (link_of a) (link_of b)
        (outbox_of has_channel) (outbox_of has_channel) outcome
