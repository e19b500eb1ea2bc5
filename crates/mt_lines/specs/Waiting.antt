-- Replies that wait to be written.
use Rattle.std.specs.Prelude.{◌≡◌, ℕ, List, ◌++◌, Bool, Result, Ok, Err}
use Rattle.std.specs.Io.KnownBytes.{Appends}
use Rattle.std.specs.declared.option.Option.{Option}
use Rattle.mt_io.specs.declared.whole_write.WriteFault.{WriteFault}
use Rattle.mt_io.specs.Writing.{AppendsFront}
use Rattle.mt_lines.specs.Given.{IsGivenFor, is_farewell}
use Rattle.mt_write.specs.declared.reply.Reply.{Reply}
use Rattle.mt_write.specs.Reply.{reply_text}

-- a front of these bytes was written; the rest waits
abbrev pub LeavesWaiting : Option (List ℕ) → Option (List ℕ) → List ℕ → List ℕ → Type 0
LeavesWaiting before after bytes waits = (front : List ℕ) × (bytes ≡ front ++ waits) × Appends before after front

-- a text follows those waiting, or output failed. Then a front of it all was written, and the rest is lost.
abbrev pub PutsAfter : List ℕ → Bool → Result Bool WriteFault → List ℕ → List ℕ → Option (List ℕ) → Option (List ℕ) → Type 0
PutsAfter text is_last (Ok ends) waited waits before after = LeavesWaiting before after (waited ++ text) waits × (is_last ≡ ends)
PutsAfter text is_last (Err fault) waited waits before after = AppendsFront before after (waited ++ text)

-- a reply was given after those that waited
pub record GivesAfter (reply : Reply) (result : Result Bool WriteFault) (waited waits : List ℕ) (before after : Option (List ℕ)) : Type 0 where
  pub given : Reply
  pub given_for : IsGivenFor reply given
  pub sent : PutsAfter (reply_text given) (is_farewell given) result waited waits before after
