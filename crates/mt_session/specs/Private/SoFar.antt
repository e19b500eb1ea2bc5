-- No public contract names these: they are of private steps and of proofs.
-- The run of a session so far.
use Rattle.std.specs.Prelude.{◌≡◌, List, [], ℕ, Bool, false, OnErr}
use Rattle.std.specs.declared.option.Option.{Option}
use Rattle.std.specs.declared.option.Option.TheVariants.{None, Some}
use Rattle.std.specs.declared.result.Result.{Result}
use Rattle.mt_io.specs.Reading.{Reading}
use Rattle.mt_io.specs.declared.whole_write.WriteFault.{WriteFault}
use Rattle.mt_lines.specs.Ending as ends
use Rattle.mt_lines.specs.Ending.{ending_after}
use Rattle.mt_lines.specs.Given.{is_farewell}
use Rattle.mt_lines.specs.Waiting.{GivesAfter}
use Rattle.mt_lines.specs.declared.ending.Ending.{Ending}
use Rattle.mt_lines.specs.declared.ending.Ending.TheVariants as endings
use Rattle.mt_write.specs.declared.reply.Reply.{Reply}
use Rattle.mt_write.specs.Reply.{reply_text}
use Rattle.mt_session.specs.declared.outcome.Outcome.{Outcome}
use Rattle.mt_session.specs.declared.outcome.Outcome.TheVariants as outcomes
use Rattle.mt_session.specs.Following.{IsFollowed, IsRenewalDone, TouchesNoJob, Standing}

-- the outcome of a session whose lines ended so
abbrev pub outcome_of : Ending → Outcome
outcome_of endings.End = outcomes.Ended
outcome_of endings.Last = outcomes.Ended
outcome_of endings.ReadFault = outcomes.ReadFault
outcome_of endings.WriteFault = outcomes.WriteFault
outcome_of endings.Spent = outcomes.Spent

-- `SessionEnds`, `SessionRuns`, `SessionTurned`: what an ending says of a session's lines; a session's lines so far; and one turn of the loop over them
abbrev pub SessionEnds : Standing → Standing → Ending → List ℕ → List ℕ → List ℕ → Type 0
SessionEnds start end ending input left written = ends.EndsSo reply_text is_farewell TouchesNoJob IsFollowed start end ending input left written

abbrev pub SessionRuns : Standing → Option (List ℕ) → Option (List ℕ) → List ℕ → List ℕ → Reading → Standing → Type 0
SessionRuns start before now written waiting reader w = ends.HasRun reply_text is_farewell TouchesNoJob IsFollowed start before now written waiting reader w

abbrev pub SessionTurned : Standing → Option Ending → Option (List ℕ) → Option (List ℕ) → List ℕ → Option (List ℕ) → Option (List ℕ) → List ℕ → Reading → Standing → Type 0
SessionTurned start result before now sent held held_now waiting reader w =
    ends.Turned reply_text is_farewell TouchesNoJob IsFollowed start result before now sent held held_now waiting reader w

-- a reply was given after those that waited, and the session ends with it so, or goes on
pub record GivesTill (reply : Reply) (result : Option Ending) (waited waiting : List ℕ) (before after : Option (List ℕ)) : Type 0 where
  pub given : Result Bool WriteFault
  pub gives : GivesAfter reply given waited waiting before after
  pub lost : OnErr given (waiting ≡ [])
  pub result_is : result ≡ ending_after given false

-- what follows is done where the session goes on, and nothing where it has ended
abbrev pub IsDoneUnless : Option Ending → Option (List ℕ) → Standing → Standing → Type 0
IsDoneUnless None job answered next = IsRenewalDone job answered next
IsDoneUnless (Some ending) job answered next = next ≡ answered
