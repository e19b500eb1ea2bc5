-- The lines that set a picture up, up to the one that begins it.
use Rattle.std.specs.Prelude.{◌≡◌, ◌^◌, ◌⊎◌, ℕ, true, false, List, [], length}
use Rattle.mt_lines.specs.Answering as answering
use Rattle.mt_picture.specs.Story.{Story}
use Rattle.mt_write.specs.Reply.{reply_text}
use Rattle.mt_top.specs.Lines.{ends_opening}
use Rattle.mt_top.specs.declared.status.Status.{Status}
use Rattle.mt_top.specs.declared.status.Status.TheVariants.{Done, Usage, Setup, ReadFault, WriteFault, DoorFault, Spent, Memory}
use Rattle.mt_top.specs.Script.{NothingFollows, IsReplied}
use Rattle.mt_world.specs.World.{World, opening_world, setup_of}

-- the lines up to the one that begins the picture are answered. It is the first that does. The picture has the rules and tables that they set up, and
-- no entry.
pub record BeginsPicture (input left written : List ℕ) (picture : Story) : Type 0 where
  pub end : World
  pub answers : answering.AnswersToLast reply_text ends_opening IsReplied NothingFollows opening_world input left written end
  pub begun : end.begun ≡ true
  pub picture_is : picture ≡ record { setup = setup_of end; history = [] }

-- no line begins the picture; all are answered. The input was read to its end, or to a farewell.
pub record EndsUnbegun (input left written : List ℕ) : Type 0 where
  pub end : World
  pub answers : answering.AnswersAll reply_text ends_opening IsReplied NothingFollows opening_world input left written end
      ⊎ answering.AnswersToLast reply_text ends_opening IsReplied NothingFollows opening_world input left written end
  pub unbegun : end.begun ≡ false

-- what a status before the picture begins says: the lines so far are answered. Of the whole input, of what is left of it, and of the bytes written.
abbrev pub OpeningMeans : Status → List ℕ → List ℕ → List ℕ → Type 0
OpeningMeans Setup input left written = EndsUnbegun input left written
OpeningMeans ReadFault input left written = (end : World) × (taken : List ℕ)
    × answering.AnswersWhole reply_text ends_opening IsReplied NothingFollows opening_world input left taken written end
OpeningMeans Spent input left written = (end : World) × (taken : List ℕ) × (length taken ≡ 2 ^ 32)
    × answering.AnswersWhole reply_text ends_opening IsReplied NothingFollows opening_world input left taken written end
OpeningMeans WriteFault input left written = (end : World)
    × answering.AnswersFront reply_text ends_opening IsReplied NothingFollows opening_world input left written end
OpeningMeans Memory input left written = (left ≡ input) × (written ≡ [])
OpeningMeans Done input left written = ⊥
OpeningMeans Usage input left written = ⊥
OpeningMeans DoorFault input left written = ⊥
