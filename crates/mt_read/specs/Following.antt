-- What a line asks of a standby whose picture has begun.
use Rattle.std.specs.Prelude.{◌≡◌, ℕ, List, [], ◌∷◌, Option, Some, None, option_and_then, Result, Ok, Err, ⊤}
use Rattle.serde_json.specs.Data.{Members}
use Rattle.mt_base.specs.declared.command.Entry.{Entry}
use Rattle.mt_base.specs.Bounds.{IsBoundedCommand}
use Rattle.mt_base.specs.Decision.{filled}
use Rattle.mt_board.specs.declared.ask.Ask.{Ask}
use Rattle.mt_board.specs.declared.ask.Ask.TheVariants as asks
use Rattle.mt_read.specs.declared.following.FeedLine.{FeedLine}
use Rattle.mt_read.specs.declared.following.FeedLine.TheVariants.{Followed, Asked, Ended}
use Rattle.mt_read.specs.declared.following.FeedWord.{FeedWord}
use Rattle.mt_read.specs.declared.following.FeedWord.TheVariants as reading
use Rattle.mt_read.specs.declared.origin.Origin.TheVariants.{Line}
use Rattle.mt_read.specs.declared.request.LineNo.{LineNo}
use Rattle.mt_read.specs.declared.request.Sender.TheVariants.{Plain}
use Rattle.mt_read.specs.declared.request.Request.{Request}
use Rattle.mt_read.specs.declared.request.Request.TheVariants as request
use Rattle.mt_read.specs.declared.word.Word.TheVariants as word
use Rattle.mt_read.specs.Entry.{as_entry, held_in}
use Rattle.mt_read.specs.Line.{decoded, read_layout, read_value, word_text}
use Rattle.mt_read.specs.Table.{Layout, layout_of}
use Rattle.mt_read.specs.Words.{named_by}

-- `reading_layout`, `readings`, `reading_word_of`: the rows of lines that are no entry
abbrev pub reading_layout : FeedWord → Layout Request
reading_layout reading.List = layout_of word.List
reading_layout reading.Check = layout_of word.Check
reading_layout reading.Flight = layout_of word.Flight
reading_layout reading.Due = layout_of word.Due
reading_layout reading.Bye = layout_of word.Bye

abbrev pub readings : List FeedWord
readings = reading.List ∷ reading.Check ∷ reading.Flight ∷ reading.Due ∷ reading.Bye ∷ []

unfoldable pub reading_word_of : List ℕ → Option FeedWord
reading_word_of = named_by (λ w. (reading_layout w).text) readings

-- `as_line`, `as_asked`, `as_followed`, `of_reading`: what a feed's line asks for, or the entry it holds
abbrev pub as_line : Request → FeedLine
as_line (request.Ask asked) = Asked asked
as_line other = Ended

abbrev pub as_asked : Result (ℕ × Request) LineNo → Result FeedLine LineNo
as_asked (Ok asked) = Ok (as_line asked.1)
as_asked (Err refusal) = Err refusal

abbrev pub as_followed : Result Entry LineNo → Result FeedLine LineNo
as_followed (Ok e) = Ok (Followed e)
as_followed (Err refusal) = Err refusal

abbrev pub of_reading : Members → Option FeedWord → Result FeedLine LineNo
of_reading ms (Some word) = as_asked (read_layout (Line Plain) [] (reading_layout word) ms)
of_reading ms None = as_followed (as_entry (held_in ms))

-- what a feed object's members are read as
abbrev pub feed_members : Members → Result FeedLine LineNo
feed_members ms = of_reading ms (option_and_then reading_word_of (word_text ms))

-- what a standby's line is read as: a read as in a session, else an entry. By the checks of a line and in their order; a read has no field that says
-- who asks.
abbrev pub feed : List ℕ → Result FeedLine LineNo
feed bytes = read_value feed_members (decoded bytes)

-- what a standby may be asked: anything but entries
abbrev pub IsReading : Ask → Type 0
IsReading (asks.History from to) = ⊥
IsReading asked = ⊤

-- a bounded entry with its second, or a read. The numbers of an entry are within their bounds, and no moment fills anything in.
abbrev pub IsReadyLine : FeedLine → Type 0
IsReadyLine (Followed e) = IsBoundedCommand e.command × ((now : ℕ) → filled now e.command ≡ e.command)
IsReadyLine (Asked asked) = IsReading asked
IsReadyLine Ended = ⊤
