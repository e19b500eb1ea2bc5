-- Entries as they are printed, and what the lines of bytes are read as.
use Rattle.std.specs.Prelude.{◌≡◌, ℕ, List, map, take, flat_map, slice_get, Some, Ok, Err, ⊤}
use Rattle.mt_base.specs.declared.command.Entry.{Entry}
use Rattle.mt_io.specs.Lines.{lines_of}
use Rattle.mt_read.specs.declared.request.LineNo.{LineNo}
use Rattle.mt_read.specs.Entry.{entry}
use Rattle.mt_write.specs.Entry.{entry_text}
use Rattle.mt_history.specs.declared.reading.BadHistory.{BadHistory}
use Rattle.mt_history.specs.declared.reading.BadHistory.TheVariants.{Line, Memory}

-- the texts of entries, each with its 0x0A
abbrev pub printed : List Entry → List ℕ
printed entries = flat_map entry_text entries

-- each line is read as the entry of its place. There are as many lines as entries. It is opaque, so that a proof opens no reading.
unfoldable pub AreReadAsEntries : List (List ℕ) → List Entry → Type 0
AreReadAsEntries lines entries = map entry lines ≡ map Ok entries

-- the first line that is no entry
pub record IsFirstBad (bytes : List ℕ) (place : ℕ) : Type 0 where
  pub line : List ℕ
  pub is : slice_get (lines_of bytes) place ≡ Some line
  pub refusal : LineNo
  pub refused : entry line ≡ Err refusal
  pub before : List Entry
  pub read : AreReadAsEntries (take place (lines_of bytes)) before

-- why bytes aren't read: their first bad line, or no memory
abbrev pub IsBad : List ℕ → BadHistory → Type 0
IsBad bytes (Line place) = IsFirstBad bytes place
IsBad bytes Memory = ⊤
