-- A standby that follows the beginning of a primary's history.
use Rattle.std.specs.Prelude.{◌≡◌, ◌≤◌, ℕ, true, List, [], length, take, All}
use Rattle.mt_base.specs.declared.command.Entry.{Entry}
use Rattle.mt_base.specs.declared.conflict.Conflict.{Conflict}
use Rattle.mt_base.specs.Effect.{state_of}
use Rattle.mt_base.specs.History.{IsReplayable}
use Rattle.mt_base.specs.Picture.{IsPublished}
use Rattle.mt_base.specs.Tables.{Setup}
use Rattle.mt_history.specs.Printed.{AreReadAsEntries}
use Rattle.mt_lines.specs.Answering as answering
use Rattle.mt_lines.specs.Given.{is_farewell}
use Rattle.mt_write.specs.declared.reply.Reply.{Reply}
use Rattle.mt_write.specs.Reply.{reply_text}
use Rattle.mt_standby.specs.Standby.{IsFeedAnswered, fed_line}
use Rattle.mt_world.specs.World.{World, picture_of, setup_of}

-- the reply to a line in whose place no `memory` stands
abbrev pub IsToLine : World → List ℕ → Reply → World → Type 0
IsToLine w line reply next = IsFeedAnswered w (fed_line line) reply next

-- nothing follows the reply to a line
abbrev pub IsLast : World → List ℕ → Reply → World → World → Type 0
IsLast w line reply answered next = next ≡ answered

-- lines are answered in order, none with `memory`
abbrev pub AreAnswered : World → List (List ℕ) → List ℕ → World → Type 0
AreAnswered w lines bytes end = answering.AreReplied reply_text is_farewell IsToLine IsLast w lines bytes end

-- a fresh standby answered the texts of the primary's first n entries. It has the primary's setup, and had followed no entry. The primary's history
-- can be replayed.
pub record FollowFirst (setup : Setup) (primary : List Entry) (n : ℕ) (w : World) (lines : List (List ℕ)) (bytes : List ℕ) (end : World) : Type 0 where
  pub begun : w.begun ≡ true
  pub setup_is : setup_of w ≡ setup
  pub none : w.history ≡ []
  pub replayable : IsReplayable setup primary
  pub read : AreReadAsEntries lines (take n primary)
  pub short : All (λ line. length line ≤ 65536) lines
  pub answered : AreAnswered w lines bytes end

-- the standby publishes what the primary did at version n. It has these n entries.
pub record HasCaughtUp (setup : Setup) (primary : List Entry) (n : ℕ) (end : World) : Type 0 where
  pub setup_is : setup_of end ≡ setup
  pub history : end.history ≡ take n primary
  pub published : (conflicts : List Conflict) → IsPublished setup (state_of setup (take n primary)) conflicts
      → IsPublished (setup_of end) (picture_of end) conflicts
