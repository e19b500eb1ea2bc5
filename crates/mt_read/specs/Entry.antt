-- What the text of an entry is read as.
use Rattle.std.specs.Prelude.{ℕ, List, codes, Option, Some, None, option_and_then, Result, Ok, Err, []}
use Rattle.serde_json.specs.Data.{Members}
use Rattle.mt_base.specs.declared.command.Command.{Command}
use Rattle.mt_base.specs.declared.command.Entry.{Entry}
use Rattle.mt_read.specs.declared.origin.Origin.TheVariants as origin
use Rattle.mt_read.specs.declared.request.LineNo.{LineNo}
use Rattle.mt_read.specs.declared.request.LineNo.TheVariants.{Form}
use Rattle.mt_read.specs.declared.word.EntryWord.{EntryWord}
use Rattle.mt_read.specs.Line.{decoded, read_layout, read_value, word_text}
use Rattle.mt_read.specs.Table.{entry_layout}
use Rattle.mt_read.specs.Words.{entry_word_of}

-- `of_entry_word`, `held_in`: the command that an entry holds, and who asked
abbrev pub of_entry_word : Members → Option EntryWord → Result (ℕ × Command) LineNo
of_entry_word ms None = Err (Form (codes "do"))
of_entry_word ms (Some word) = read_layout origin.Entry [] (entry_layout word) ms

abbrev pub held_in : Members → Result (ℕ × Command) LineNo
held_in ms = of_entry_word ms (option_and_then entry_word_of (word_text ms))

-- `as_entry`, `entry`: what an entry's text is read as, by a line's checks. In their order: the object has the fields of its command, each of them,
-- and who asked, up to 2^32 - 1.
abbrev pub as_entry : Result (ℕ × Command) LineNo → Result Entry LineNo
as_entry (Ok held) = Ok (record { who = held.0; command = held.1 })
as_entry (Err refusal) = Err refusal

abbrev pub entry : List ℕ → Result Entry LineNo
entry bytes = as_entry (read_value held_in (decoded bytes))
