-- What is read as a line for a standby: an entry whose numbers are within their bounds, or a line that asks what holds.
use Rattle.std.proofs.Common.{◌≡◌, ℕ, List, [], Option, Some, None, Result, Ok, Err, refl, sym, subst}
use Rattle.std.specs.Prelude.{IfOk, option_and_then}
use Rattle.serde_json.specs.Data.{Members}
use Rattle.mt_base.specs.declared.command.Command.{Command}
use Rattle.mt_read.specs.declared.following.FeedLine.{FeedLine}
use Rattle.mt_read.specs.declared.following.FeedLine.TheVariants.{Followed}
use Rattle.mt_read.specs.declared.following.FeedWord.{FeedWord}
use Rattle.mt_read.specs.declared.following.FeedWord.TheVariants as reading
use Rattle.mt_read.specs.declared.origin.Origin.TheVariants.{Line}
use Rattle.mt_read.specs.declared.request.LineNo.{LineNo}
use Rattle.mt_read.specs.declared.request.Sender.TheVariants.{Plain}
use Rattle.mt_read.specs.declared.request.Request.{Request}
use Rattle.mt_read.specs.Entry.{as_entry, held_in}
use Rattle.mt_read.specs.Following.{IsReadyLine, as_asked, as_followed, as_line, feed, feed_members, of_reading, reading_layout, reading_word_of}
use Rattle.mt_read.specs.Line.{GivesReading, checked, decoded, read_layout, word_text}
use Rattle.mt_read.specs.Words.{entry_word_of}
use Rattle.mt_read.proofs.BoundedLines.{checked_steps, entry_word_bounded, layout_holds, value_holds}
use Rattle.mt_read.proofs.TimedEntries.{word_full}

-- what the row of a line that is no entry asks for
row_ready : (w : FeedWord) (ms : Members) → IsReadyLine (as_line ((reading_layout w).asks ms))
row_ready reading.List ms = tt
row_ready reading.Check ms = tt
row_ready reading.Flight ms = tt
row_ready reading.Due ms = tt
row_ready reading.Bye ms = tt

abbrev IsReadyAsked : ℕ × Request → Type 0
IsReadyAsked a = IsReadyLine (as_line a.1)

checked_ready : (w : FeedWord) (ms : Members) (a : ℕ × Request) → checked (Line Plain) [] (reading_layout w) ms ≡ Ok a → IsReadyAsked a
checked_ready w ms a e =
    let was = checked_steps (Line Plain) [] (reading_layout w) ms a e in
    subst (λ (q : Request). IsReadyLine (as_line q)) was.asked_is (row_ready w ms)

asked_ready : (r : Result (ℕ × Request) LineNo) (line : FeedLine) → ((a : ℕ × Request) → r ≡ Ok a → IsReadyAsked a) → as_asked r ≡ Ok line → IsReadyLine line
asked_ready (Ok a) line ready e = let same : as_line a.1 ≡ line = cc in subst IsReadyLine same (ready a refl)
asked_ready (Err refusal) line ready e = cc

held_ready : (ms : Members) (r : Result (ℕ × Command) LineNo) (line : FeedLine) → held_in ms ≡ r → as_followed (as_entry r) ≡ Ok line → IsReadyLine line
held_ready ms (Ok a) line is e =
    let same : Followed (record { who = a.0; command = a.1 }) ≡ line = cc in
    let word = option_and_then entry_word_of (word_text ms) in
    subst IsReadyLine same (entry_word_bounded ms word a is, word_full ms word a is)
held_ready ms (Err refusal) line is e = cc

word_ready : (ms : Members) (o : Option FeedWord) (line : FeedLine) → of_reading ms o ≡ Ok line → IsReadyLine line
word_ready ms (Some w) line e =
    asked_ready (read_layout (Line Plain) [] (reading_layout w) ms) line
    (λ a is. layout_holds IsReadyAsked (Line Plain) [] (reading_layout w) ms a (checked_ready w ms) is) e
word_ready ms None line e = held_ready ms (held_in ms) line refl e

-- a line that is read may be followed or asked
pub line_ready : (bytes : List ℕ) (r : Result FeedLine LineNo) → GivesReading r (feed bytes) → IfOk r IsReadyLine
line_ready bytes (Ok line) e =
    value_holds IsReadyLine feed_members (decoded bytes) line (λ ms. word_ready ms (option_and_then reading_word_of (word_text ms)) line) (sym e)
line_ready bytes (Err refusal) e = tt
