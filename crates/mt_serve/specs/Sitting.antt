-- Sessions, as contracts see them: what each is given, and what it gives back.
use Rattle.std.specs.Prelude.{◌≡◌, Bool, false, List, map, All}
use Rattle.mt_base.specs.declared.command.Entry.{Entry}
use Rattle.mt_base.specs.Tables.{Setup}
use Rattle.mt_session.specs.declared.outcome.Outcome.{Outcome}
use Rattle.mt_turn.specs.Seats.{SeatNow}

-- a session's link, seat, and whether it has a channel
pub record SessionStart (L : Type 0) : Type 0 where
  pub link : L
  pub seat : SeatNow Entry Setup
  pub has_channel : Bool

-- `SessionRun`, `links_of`, `seats_of`, `starts_of`: what a session was given and gave back
pub record SessionRun (L : Type 0) : Type 0 where
  pub from : SessionStart L
  pub link : L
  pub seat : SeatNow Entry Setup
  pub outcome : Outcome

abbrev pub links_of : {L : Type 0} → List (SessionStart L) → List L
links_of {L} starts = map (λ (s : SessionStart L). s.link) starts

abbrev pub seats_of : {L : Type 0} → List (SessionStart L) → List (SeatNow Entry Setup)
seats_of {L} starts = map (λ (s : SessionStart L). s.seat) starts

abbrev pub starts_of : {L : Type 0} → List (SessionRun L) → List (SessionStart L)
starts_of {L} runs = map (λ (m : SessionRun L). m.from) runs

-- no session has a channel
abbrev pub HaveNoChannel : {L : Type 0} → List (SessionStart L) → Type 0
HaveNoChannel {L} starts = All (λ (s : SessionStart L). s.has_channel ≡ false) starts
