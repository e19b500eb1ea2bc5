-- What a session's lines mean as they end.
use Rattle.std.proofs.Common.{◌≡◌, ◌<◌, ◌≤◌, ◌||◌, ◌⊎◌, inl, inr, ℕ, Bool, true, false, List, [], length, Option, Some, None, Result, Ok, Err, refl}
use Rattle.std.specs.Prelude.{IfNone, MatchOption, OnOk, is_some}
use Rattle.mt_io.specs.declared.whole_write.WriteFault.{WriteFault}
use Rattle.mt_lines.specs.Ending.{ending_after}
use Rattle.mt_write.specs.declared.reply.Reply.{Reply}
use Rattle.mt_write.specs.declared.reply.Reply.TheVariants as replies
use Rattle.mt_lines.specs.Answering.{Explains}
use Rattle.mt_lines.specs.Given.{IsGivenFor, is_farewell}
use Rattle.mt_lines.specs.declared.ending.Ending.{Ending}
use Rattle.mt_lines.specs.declared.ending.Ending.TheVariants as endings
use Rattle.mt_lines.proofs.Answering.{explained_as, nothing}
use Rattle.mt_workers.specs.Jobs.{Jobs}
use Rattle.mt_board.specs.BoardSeat.{BoardSeat}
use Rattle.mt_board.proofs.SeatLemmas.{goes_on_itself, same_itself}
use Rattle.mt_session.specs.declared.outcome.Outcome.TheVariants as outcomes
use Rattle.mt_session.specs.Run.{IsSession, Link, SessionMeans}
use Rattle.mt_session.specs.Following.{IsFollowed, Standing, TouchesNoJob, job_of}
use Rattle.mt_session.specs.Served.{IsRepliedTo}
use Rattle.mt_session.specs.Session.{Session, asked_in_role, new_session}
use Rattle.mt_session.specs.Private.SoFar.{IsDoneUnless, SessionEnds, outcome_of}
use Rattle.mt_session.proofs.Replying.{given_job, given_replied, long_job, long_replied}

wanted : (start : Standing) (before held : Option (List ℕ)) → Explains (SessionMeans start start outcomes.Memory) before before held held
wanted start before held = explained_as _ _ before before held held (λ input left written (none, empty). (none, empty, refl)) (nothing before held)

-- an ending says what its outcome says
ended_as : (start end : Standing) (ending : Ending) (input left written : List ℕ) → SessionEnds start end ending input left written
    → SessionMeans start end (outcome_of ending) input left written
ended_as start end endings.End input left written all = inl all
ended_as start end endings.Last input left written to = inr to
ended_as start end endings.ReadFault input left written whole = whole
ended_as start end endings.Spent input left written whole = whole
ended_as start end endings.WriteFault input left written loses = loses

pub explained : (start end : Standing) (ending : Ending) (before after held held_after : Option (List ℕ))
    → Explains (SessionEnds start end ending) before after held held_after → Explains (SessionMeans start end (outcome_of ending)) before after held held_after
explained start end ending before after held held_after so = explained_as _ _ before after held held_after (ended_as start end ending) so

-- a fault is the outcome only where it is the ending
pub read_ends : (ending : Ending) → outcome_of ending ≡ outcomes.ReadFault → ending ≡ endings.ReadFault
read_ends endings.End is = cc
read_ends endings.Last is = cc
read_ends endings.ReadFault is = refl
read_ends endings.WriteFault is = cc
read_ends endings.Spent is = cc

pub write_ends : (ending : Ending) → outcome_of ending ≡ outcomes.WriteFault → ending ≡ endings.WriteFault
write_ends endings.End is = cc
write_ends endings.Last is = cc
write_ends endings.ReadFault is = cc
write_ends endings.WriteFault is = refl
write_ends endings.Spent is = cc

-- where the session goes on, a reply was given
pub given_on : (given : Result Bool WriteFault) (P : Type 0) → ending_after given false ≡ None → OnOk given P → P
given_on (Ok true) P goes_on is = cc
given_on (Ok false) P goes_on is = is
given_on (Err fault) P goes_on is = cc

no_more : (farewell : Bool) → farewell ≡ farewell || false
no_more true = refl
no_more false = refl

-- only a farewell is the last reply
pub only_farewell : (reply other : Reply) → IsGivenFor reply other → is_farewell other ≡ is_farewell other || false
only_farewell reply other for = no_more (is_farewell other)

module _ (w : Standing) (line : List ℕ) where
  -- what is given in place of a line's reply is one
  pub replied_so : (reply : Reply) (answered : Session) → IsRepliedTo w.session line reply answered → length line ≤ 65536
      → (other : Reply) → IsGivenFor reply other → TouchesNoJob w line other (record { session = answered; jobs = w.jobs })
  replied_so reply answered replied short other for = (given_replied w.session answered line reply other replied for (λ not_brief. short), refl)

  -- and the same follows it
  pub followed_so : (ending : Option Ending) (reply : Reply) (answered next : Standing)
      → IsDoneUnless ending (job_of (asked_in_role w.session.role line) reply) answered next
      → (other : Reply) → IsGivenFor reply other → MatchOption ending (IsFollowed w line other answered next) (λ _. next ≡ answered)
  followed_so None reply answered next done other for = rw (given_job (asked_in_role w.session.role line) reply other for) done
  followed_so (Some ending) reply answered next done other for = done

  -- a line that is too long
  pub long_so : 65536 < length line → (other : Reply) → IsGivenFor replies.Long other → TouchesNoJob w line other w
  long_so long other for = (given_replied w.session w.session line replies.Long other (long_replied w.session line long) for (λ not_brief. cc), refl)

  pub long_followed : 65536 < length line → (ending : Option Ending) (next : Standing) → IsDoneUnless ending None w next
      → (other : Reply) → IsGivenFor replies.Long other → MatchOption ending (IsFollowed w line other w next) (λ _. next ≡ w)
  long_followed long ending next done = followed_so ending replies.Long w next (rw (long_job w.session line long) done)

-- where the session goes on, no job follows, or no reply waits
pub settled : (ending : Option Ending) (job : Option (List ℕ)) (answered next : Standing) (waiting : List ℕ) → IsDoneUnless ending job answered next
    → IfNone ending (is_some job ≡ true → waiting ≡ []) → IfNone ending ((next ≡ answered) ⊎ (waiting ≡ []))
settled None None answered next waiting done written = inl done
settled None (Some call) answered next waiting done written = inr (written refl)
settled (Some ending) job answered next waiting done written = tt

-- memory was wanted before the first line
pub nothing_done : (seat : BoardSeat) (link : Link) (jobs : Option Jobs) → IsSession seat seat link link (Some jobs) (Some jobs) outcomes.Memory
nothing_done seat link jobs = record {
  end = new_session seat;
  seat_is = refl;
  explained = wanted (record { session = new_session seat; jobs = jobs }) link.left link.held;
  same = same_itself seat;
  begins = goes_on_itself seat.seen;
  read_cause = λ is. cc;
  write_cause = λ is. cc;
}
