use Rattle.std.specs.Prelude.{◌≡◌, ◌^◌, ◌⊎◌, ℕ, List, [], ◌∷◌, ◌++◌, length, codes, All}
use Rattle.std.specs.declared.option.Option.{Option}
use Rattle.std.specs.declared.option.Option.TheVariants.{None, Some}
use Rattle.mt_base.specs.Complete.{IsComplete}
use Rattle.mt_args.specs.declared.task.Task.{Task}
use Rattle.mt_args.specs.declared.task.Task.TheVariants.{Load, Replay, Serve, Standby}
use Rattle.mt_args.specs.Task.{task_of}
use Rattle.mt_io.specs.declared.source.Source as Source
use Rattle.mt_io.specs.declared.sink.Sink as Sink
use Rattle.mt_lines.specs.Answering as answering
use Rattle.mt_lines.specs.Given.{is_farewell}
use Rattle.mt_write.specs.declared.reply.Reply.{Reply}
use Rattle.mt_write.specs.Reply.{reply_text}
use Rattle.mt_top.specs.declared.status.Status.{Status}
use Rattle.mt_top.specs.declared.status.Status.TheVariants.{Done, Usage, Setup, ReadFault, WriteFault, DoorFault, Spent, Memory}
use Rattle.mt_top.specs.Load.{LoadMeans}
use Rattle.mt_top.specs.Script.{NothingFollows, IsReplied}
use Rattle.mt_serve.specs.Tied.{Doorway}
use Rattle.mt_top.specs.Serve.{ServeMeans}
use Rattle.mt_top.specs.Standby.{IsStoodBy}
use Rattle.mt_world.specs.World.{World, opening_world}

-- Lines are answered one by one, from the opening world on, up to the one that is answered with a farewell: which reply is given to a line of a
-- world, and which world that leaves, is said by `HasReply`. At the end there is some world; where no output failed, each entry of its history is
-- complete.
module _ (HasReply : World → List ℕ → Reply → World → Type 0) where
  -- all lines of the input are answered
  abbrev pub AnswersAllLines : List ℕ → List ℕ → List ℕ → Type 0
  AnswersAllLines input left written = (end : World)
      × answering.AnswersAll reply_text is_farewell HasReply NothingFollows opening_world input left written end × All IsComplete end.history

  -- the lines up to `bye` are answered
  abbrev pub AnswersToBye : List ℕ → List ℕ → List ℕ → Type 0
  AnswersToBye input left written = (end : World)
      × answering.AnswersToLast reply_text is_farewell HasReply NothingFollows opening_world input left written end × All IsComplete end.history

  -- the whole lines of the bytes taken are answered
  abbrev pub AnswersWholeLines : List ℕ → List ℕ → List ℕ → List ℕ → Type 0
  AnswersWholeLines input left taken written = (end : World)
      × answering.AnswersWhole reply_text is_farewell HasReply NothingFollows opening_world input left taken written end × All IsComplete end.history

  -- some first lines are answered, the last reply cut short. More may have been read, whose replies are lost.
  abbrev pub AnswersFrontOfLines : List ℕ → List ℕ → List ℕ → Type 0
  AnswersFrontOfLines input left written = (end : World)
      × answering.AnswersFront reply_text is_farewell HasReply NothingFollows opening_world input left written end

  -- what a status says: which lines of the input the bytes written answer. Of the whole input, of what is left of it, and of the bytes written.
  -- Memory can run out only before the first line: then nothing was read and nothing written.
  abbrev pub AnswersMean : Status → List ℕ → List ℕ → List ℕ → Type 0
  AnswersMean Done input left written = AnswersAllLines input left written ⊎ AnswersToBye input left written
  AnswersMean ReadFault input left written = (taken : List ℕ) × AnswersWholeLines input left taken written
  AnswersMean Spent input left written = (taken : List ℕ) × (length taken ≡ 2 ^ 32) × AnswersWholeLines input left taken written
  AnswersMean WriteFault input left written = AnswersFrontOfLines input left written
  AnswersMean Memory input left written = (left ≡ input) × (written ≡ [])
  AnswersMean Usage input left written = ⊥
  AnswersMean Setup input left written = ⊥
  AnswersMean DoorFault input left written = ⊥

-- what a replay's status says; its lines are a script's
abbrev pub ReplayMeans : Status → List ℕ → List ℕ → List ℕ → Type 0
ReplayMeans = AnswersMean IsReplied

-- what a standby's status says; its lines are a script's, then a standby's. The lines are those of a script up to the one that begins the picture,
-- and from then on those of a standby.
abbrev pub StandbyMeans : Status → List ℕ → List ℕ → List ℕ → Type 0
StandbyMeans = AnswersMean IsStoodBy

-- the usage line, for words that are no command
abbrev pub usage_line : List ℕ
usage_line = codes "usage: mtcd replay | standby | serve [--port P] [--sessions N] [--workers W] | load [--flights N] [--number X]" ++ 10 ∷ []

-- what the usage status says: nothing read, the usage line written. Or a front of it where the output failed.
abbrev pub UsageMeans : Status → List ℕ → List ℕ → List ℕ → Type 0
UsageMeans Usage input left written = (left ≡ input) × (written ≡ usage_line)
UsageMeans WriteFault input left written = (left ≡ input) × ((unwritten : List ℕ) × (usage_line ≡ written ++ unwritten))
UsageMeans status input left written = ⊥

module _ {L : Type 0} (source : Source.Ghosts L) (sink : Sink.Ghosts L) (old new : Doorway L) (before now : ℕ) where
  -- `TaskMeans`, `RunMeans`: what a run's status says, by its words; only `serve` calls the door. `before` and `now` are what the output counts of
  -- its faults.
  abbrev pub TaskMeans : Option Task → Status → List ℕ → List ℕ → List ℕ → Type 0
  TaskMeans (Some Replay) status input left written = ReplayMeans status input left written × (new ≡ old)
  TaskMeans (Some Standby) status input left written = StandbyMeans status input left written × (new ≡ old)
  TaskMeans (Some (Load flights number)) status input left written = LoadMeans flights number status input left written × (new ≡ old)
  TaskMeans (Some (Serve port sessions workers)) status input left written =
      ServeMeans source sink port sessions workers old new before now status input left written
  TaskMeans None status input left written = UsageMeans status input left written × (new ≡ old)

  abbrev pub RunMeans : List (List ℕ) → Status → List ℕ → List ℕ → List ℕ → Type 0
  RunMeans words status input left written = TaskMeans (task_of words) status input left written

-- no fault of the outside
abbrev pub IsNoFault : Status → Type 0
IsNoFault ReadFault = ⊥
IsNoFault WriteFault = ⊥
IsNoFault DoorFault = ⊥
IsNoFault status = Unit {0}
