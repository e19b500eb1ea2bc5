-- No public contract names these: they are of private steps and of proofs.
use Rattle.std.specs.Prelude.{◌≡◌, ◌⊎◌, ℕ, Bool, true, false, List, [], Option, Some, None}
use Rattle.mt_io.specs.Reading.{Reading}
use Rattle.mt_lines.specs.Ending as ends
use Rattle.mt_lines.specs.Given.{is_farewell}
use Rattle.mt_lines.specs.declared.ending.Ending.{Ending}
use Rattle.mt_lines.specs.declared.ending.Ending.TheVariants.{End}
use Rattle.mt_write.specs.declared.reply.Reply.{Reply}
use Rattle.mt_write.specs.Reply.{reply_text}
use Rattle.mt_top.specs.Script.{NothingFollows}
use Rattle.mt_world.specs.World.{World, opening_world}
use Rattle.mt_top.specs.Lines.{ends_opening}

-- the reply after which no line is answered, of lines that set a picture up or of a whole script
abbrev pub is_last : Bool → Reply → Bool
is_last false = is_farewell
is_last true = ends_opening

-- lines that set a picture up leave one of no entry, which hasn't begun while more of them are to be answered, nor at the input's end
pub record IsSettingUp (until_begun : Bool) (result : Option Ending) (w : World) : Type 0 where
  pub unbegun : until_begun ≡ true → (result ≡ None) ⊎ (result ≡ Some End) → w.begun ≡ false
  pub empty : until_begun ≡ true → w.begun ≡ true → w.history ≡ []

module _ (HasReply : World → List ℕ → Reply → World → Type 0) (until_begun : Bool) where
  -- `LinesEnd`, `LinesSoFar`, `LinesTurned`: what an ending says of lines from the opening world on; the lines so far; and one turn of the loop over them
  abbrev pub LinesEnd : World → Ending → List ℕ → List ℕ → List ℕ → Type 0
  LinesEnd w ending input left written = ends.EndsSo reply_text (is_last until_begun) HasReply NothingFollows opening_world w ending input left written

  abbrev pub LinesSoFar : Option (List ℕ) → Option (List ℕ) → List ℕ → List ℕ → Reading → World → Type 0
  LinesSoFar before now written waiting reader w = ends.HasRun reply_text (is_last until_begun) HasReply NothingFollows opening_world before now written waiting reader w

  abbrev pub LinesTurned : Option Ending → Option (List ℕ) → Option (List ℕ) → List ℕ → Option (List ℕ) → Option (List ℕ) → List ℕ → Reading → World → Type 0
  LinesTurned result before now sent held held_now waiting reader w =
      ends.Turned reply_text (is_last until_begun) HasReply NothingFollows opening_world result before now sent held held_now waiting reader w
