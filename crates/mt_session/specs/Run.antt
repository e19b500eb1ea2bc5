-- What a whole session means.
use Rattle.std.specs.Prelude.{◌≡◌, ◌⊎◌, ℕ, List, [], Option, Some, None}
use Rattle.mt_board.specs.BoardSeat.{BoardSeat, GoesOn, IsSameSeat}
use Rattle.mt_io.specs.Causes.{Rose}
use Rattle.mt_lines.specs.Answering.{Explains}
use Rattle.mt_lines.specs.Ending.{EndsSo}
use Rattle.mt_lines.specs.Given.{is_farewell}
use Rattle.mt_lines.specs.declared.ending.Ending.TheVariants as endings
use Rattle.mt_workers.specs.Jobs.{Jobs, no_jobs}
use Rattle.mt_write.specs.Reply.{reply_text}
use Rattle.mt_session.specs.declared.outcome.Outcome.{Outcome}
use Rattle.mt_session.specs.declared.outcome.Outcome.TheVariants.{Ended, ReadFault, WriteFault, Spent, Memory}
use Rattle.mt_session.specs.Following.{IsFollowed, TouchesNoJob, Standing}
use Rattle.mt_session.specs.Session.{Session, new_session}

-- what an outcome says: lines answered one by one, up to the farewell or a fault. By the session at first and at last, of the link's whole input,
-- what was left of it, and what was written. Memory can run out only before the first line: then nothing was read and nothing written.
abbrev pub SessionMeans : Standing → Standing → Outcome → List ℕ → List ℕ → List ℕ → Type 0
SessionMeans start end Ended input left written = EndsSo reply_text is_farewell TouchesNoJob IsFollowed start end endings.End input left written
    ⊎ EndsSo reply_text is_farewell TouchesNoJob IsFollowed start end endings.Last input left written
SessionMeans start end ReadFault input left written = EndsSo reply_text is_farewell TouchesNoJob IsFollowed start end endings.ReadFault input left written
SessionMeans start end Spent input left written = EndsSo reply_text is_farewell TouchesNoJob IsFollowed start end endings.Spent input left written
SessionMeans start end WriteFault input left written = EndsSo reply_text is_farewell TouchesNoJob IsFollowed start end endings.WriteFault input left written
SessionMeans start end Memory input left written = (left ≡ input) × (written ≡ []) × (end ≡ start)

-- a link's bytes left, bytes written and fault counts
pub record Link : Type 0 where
  pub left : Option (List ℕ)
  pub held : Option (List ℕ)
  pub read_faults : ℕ
  pub write_faults : ℕ

-- the jobs of an outbox that may be missing
abbrev pub jobs_in : Option (Option Jobs) → Option Jobs
jobs_in None = Some no_jobs
jobs_in (Some jobs) = jobs

-- a session ran over a link: its bytes mean the outcome, and faults were counted. Of the seat, the link and the outbox, if there is one, before and
-- after it. A fault of the link is the outcome only where its count rose, or stands at its last value.
pub record IsSession (seat seat_after : BoardSeat) (link link_after : Link) (outbox outbox_after : Option (Option Jobs)) (outcome : Outcome) : Type 0 where
  pub end : Session
  pub seat_is : end.seat ≡ seat_after
  pub explained : Explains
      (SessionMeans (record { session = new_session seat; jobs = jobs_in outbox }) (record { session = end; jobs = jobs_in outbox_after }) outcome)
      link.left link_after.left link.held link_after.held
  pub same : IsSameSeat seat seat_after
  pub begins : GoesOn seat.seen seat_after.seen
  pub read_cause : outcome ≡ ReadFault → Rose link.read_faults link_after.read_faults
  pub write_cause : outcome ≡ WriteFault → Rose link.write_faults link_after.write_faults

-- no fault of the link
abbrev pub IsNoLinkFault : Outcome → Type 0
IsNoLinkFault Ended = Unit {0}
IsNoLinkFault Spent = Unit {0}
IsNoLinkFault Memory = Unit {0}
IsNoLinkFault ReadFault = ⊥
IsNoLinkFault WriteFault = ⊥
