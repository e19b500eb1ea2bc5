-- Sessions that are over, counted by their outcomes, and the history that ties them.
use Rattle.std.specs.Prelude.{◌≡◌, ℕ, Bool, true, false, List, length, filter, All}
use Rattle.mt_base.specs.Complete.{IsComplete}
use Rattle.mt_base.specs.History.{IsLegal}
use Rattle.mt_base.specs.Tables.{Setup}
use Rattle.mt_io.specs.declared.source.Source as Source
use Rattle.mt_io.specs.declared.sink.Sink as Sink
use Rattle.mt_picture.specs.Story.{Story}
use Rattle.mt_session.specs.declared.outcome.Outcome.{Outcome}
use Rattle.mt_session.specs.declared.outcome.Outcome.TheVariants.{Ended, ReadFault, WriteFault, Spent, Memory}
use Rattle.mt_serve.specs.declared.counts.Counts.{Counts}
use Rattle.mt_serve.specs.Sitting.{SessionRun}
use Rattle.mt_serve.specs.Tied.{Doorway, HasServedAll}

-- a session ended by its link. By a fault, or by all bytes that a link may give.
abbrev pub is_faulted : Outcome → Bool
is_faulted Ended = false
is_faulted ReadFault = true
is_faulted WriteFault = true
is_faulted Spent = true
is_faulted Memory = false

-- a session without memory
abbrev pub is_starved_session : Outcome → Bool
is_starved_session Memory = true
is_starved_session outcome = false

-- sessions counted by their outcomes
abbrev pub counted : {L : Type 0} → List (SessionRun L) → Counts
counted {L} runs = record {
  sessions = length runs;
  faulted = length (filter (λ (m : SessionRun L). is_faulted m.outcome) runs);
  starved = length (filter (λ (m : SessionRun L). is_starved_session m.outcome) runs);
}

module _ {L : Type 0} (source : Source.Ghosts L) (sink : Sink.Ghosts L) where
  -- the closed picture's legal history, whose entries are complete, ties all links that the door gave and has back. By the rules and tables of the
  -- picture at first. The counts are those of their sessions.
  pub record HasServedWhole (setup : Setup) (port sessions workers : ℕ) (old new : Doorway L) (faulted : Bool) (picture : Story) (counts : Counts) : Type 0 where
    pub runs : List (SessionRun L)
    pub setup_is : picture.setup ≡ setup
    pub legal : IsLegal setup picture.history
    pub complete : All IsComplete picture.history
    pub all : HasServedAll source sink setup port sessions workers old new faulted picture.history runs
    pub counts_are : counts ≡ counted runs
