-- What follows the reply to a report.
use Rattle.std.specs.Prelude.{◌≡◌, ◌⊎◌, ℕ, List, Option, Some, None, Result, Ok, Err, if◌then◌else◌}
use Rattle.mt_base.specs.Verdict.{is_flagged}
use Rattle.mt_base.specs.declared.command.Command.{Command}
use Rattle.mt_base.specs.declared.command.Command.TheVariants.{Renew, Report}
use Rattle.mt_base.specs.declared.command.Entered.{Entered}
use Rattle.mt_base.specs.declared.verdict.Verdict.{Verdict}
use Rattle.mt_board.specs.declared.no.No.{No}
use Rattle.mt_board.specs.Changing.{IsChanged}
use Rattle.mt_board.specs.BoardSeat.{BoardSeat}
use Rattle.mt_read.specs.declared.request.Request.{Request}
use Rattle.mt_read.specs.declared.request.Request.TheVariants as requests
use Rattle.mt_workers.specs.Jobs.{GivesBack, Jobs, TakesJob}
use Rattle.mt_write.specs.declared.reply.Reply.{Reply}
use Rattle.mt_write.specs.declared.reply.Reply.TheVariants as replies
use Rattle.mt_session.specs.Served.{IsRepliedTo}
use Rattle.mt_session.specs.Session.{Session, asked_in_role, with_seat}

-- the flight that a command reports
abbrev pub reported : Command → Option (List ℕ)
reported (Report call report) = Some call
reported command = None

-- a flight, where the verdict has a flag
abbrev pub due_if : Option (List ℕ) → Option Verdict → Option (List ℕ)
due_if call None = None
due_if call (Some verdict) = if is_flagged verdict then call else None

-- `job_by`, `job_if`, `job_of`: the flight to renew once a flagged report is entered. By what a request, or a line, is answered.
abbrev pub job_by : Request → Entered → Option (List ℕ)
job_by (requests.Change command) entered = due_if (reported command) entered.verdict
job_by request entered = None

abbrev pub job_if : Request → Reply → Option (List ℕ)
job_if request (replies.Entered entered) = job_by request entered
job_if request reply = None

abbrev pub job_of : Result (ℕ × Request) Reply → Reply → Option (List ℕ)
job_of (Ok asked_in_role) reply = job_if asked_in_role.1 reply
job_of (Err refusal) reply = None

-- a session, and its outbox's jobs where known
pub record Standing : Type 0 where
  pub session : Session
  pub jobs : Option Jobs

-- a reply leaves the outbox's jobs alone
abbrev pub TouchesNoJob : Standing → List ℕ → Reply → Standing → Type 0
TouchesNoJob w line reply next = IsRepliedTo w.session line reply next.session × (next.jobs ≡ w.jobs)

-- the session asked to renew a flight. Whatever it was answered.
pub record HasAskedToRenew (s : Session) (call : List ℕ) (next : Session) : Type 0 where
  pub result : Result Entered No
  pub seat : BoardSeat
  pub changed : IsChanged s.seat (Renew call) result seat
  pub next_is : next ≡ with_seat s seat

-- the outbox took the job, or the session renewed itself. The outbox then gave the job back.
abbrev pub IsHanded : List ℕ → Standing → Standing → Type 0
IsHanded call w next = (TakesJob w.jobs call next.jobs × (next.session ≡ w.session)) ⊎ (GivesBack w.jobs next.jobs × HasAskedToRenew w.session call next.session)

-- a renewal is handed on, where there is one
abbrev pub IsRenewalDone : Option (List ℕ) → Standing → Standing → Type 0
IsRenewalDone None w next = next ≡ w
IsRenewalDone (Some call) w next = IsHanded call w next

-- what follows once the reply is written
abbrev pub IsFollowed : Standing → List ℕ → Reply → Standing → Standing → Type 0
IsFollowed w line reply answered next = IsRenewalDone (job_of (asked_in_role w.session.role line) reply) answered next
