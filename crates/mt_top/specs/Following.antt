-- A run of `standby` that is given what sets a primary up, and then the beginning of that primary's history.
use Rattle.std.specs.Prelude.{◌≡◌, ℕ, List, [], ◌∷◌, ◌++◌, map, take, All, Contains}
use Rattle.serde_json.specs.Written.{compact_text}
use Rattle.mt_base.specs.declared.command.Entry.{Entry}
use Rattle.mt_base.specs.Complete.{IsComplete}
use Rattle.mt_base.specs.History.{IsReplayable}
use Rattle.mt_base.specs.Tables.{Setup}
use Rattle.mt_io.specs.Lines.{lines_of}
use Rattle.mt_lines.specs.Answering as answering
use Rattle.mt_lines.specs.Given.{is_farewell}
use Rattle.mt_picture.specs.Story.{Story}
use Rattle.mt_standby.specs.Law.{HasCaughtUp}
use Rattle.mt_write.specs.declared.reply.Reply.TheVariants as replies
use Rattle.mt_write.specs.Entry.{entry_value}
use Rattle.mt_write.specs.Reply.{reply_text, reply_value}
use Rattle.mt_top.specs.Opening.{BeginsPicture}
use Rattle.mt_top.specs.Script.{NothingFollows}
use Rattle.mt_top.specs.Standby.{IsStoodBy}
use Rattle.mt_world.specs.World.{World, opening_world}

-- no line of these bytes is `memory`
abbrev pub IsNeverMemory : List ℕ → Type 0
IsNeverMemory bytes = ¬ Contains (lines_of bytes) (compact_text (reply_value replies.Memory))

-- these lines set up these rules and tables: they are those of an input up to the one that begins its picture. None was answered by `memory`.
pub record SetsUp (setup : Setup) (lines : List (List ℕ)) : Type 0 where
  pub input : List ℕ
  pub left : List ℕ
  pub opened : List ℕ
  pub begins : BeginsPicture input left opened (record { setup = setup; history = [] })
  pub lines_are : lines ≡ begins.answers.lines ++ begins.answers.line ∷ []
  pub never : IsNeverMemory opened

-- an entry's text as a line, without its 0x0A
abbrev pub entry_line : Entry → List ℕ
entry_line e = compact_text (entry_value e)

-- a standby's lines set up what the primary has, and then are the texts of the first n entries of its history. That history can be replayed, and its
-- entries are complete, as those of every picture are. No line was answered by `memory`.
pub record FollowsPrimary (primary : Story) (n : ℕ) (lines : List (List ℕ)) (written : List ℕ) : Type 0 where
  pub opening : List (List ℕ)
  pub sets_up : SetsUp primary.setup opening
  pub lines_are : lines ≡ opening ++ map entry_line (take n primary.history)
  pub replayable : IsReplayable primary.setup primary.history
  pub complete : All IsComplete primary.history
  pub never : IsNeverMemory written

-- these bytes answer a standby's lines, from the first one on
abbrev pub AreStoodBy : List (List ℕ) → List ℕ → World → Type 0
AreStoodBy lines bytes end = answering.AreReplied reply_text is_farewell IsStoodBy NothingFollows opening_world lines bytes end

-- the input was read to its end, and at that end the standby publishes what the primary did at version n. It has these n entries.
pub record EndsCaughtUp (primary : Story) (n : ℕ) (input left written : List ℕ) : Type 0 where
  pub end : World
  pub answers : answering.AnswersAll reply_text is_farewell IsStoodBy NothingFollows opening_world input left written end
  pub caught_up : HasCaughtUp primary.setup primary.history n end
