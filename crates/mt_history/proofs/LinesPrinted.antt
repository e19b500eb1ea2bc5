-- The lines of printed entries.
use Rattle.std.proofs.Common.{◌≡◌, ◌≤◌, ℕ, List, [], ◌∷◌, Result, Ok, Err, sym, ◌∙◌, ap, subst, arith, append_assoc}
use Rattle.std.specs.Global.{Vec}
use Rattle.std.specs.Prelude.{All, IfOk}
use Rattle.std.proofs.lemmas.List.Elements.{All-head, All-tail}
use Rattle.serde_json.specs.Written.{compact_text}
use Rattle.mt_base.specs.declared.command.Entry.{Entry}
use Rattle.mt_base.specs.Complete.{IsComplete}
use Rattle.mt_memory.specs.declared.Memory.{Memory}
use Rattle.mt_io.specs.Lines.{IsPart, lines_of}
use Rattle.mt_io.proofs.Lines.{lines_of-first}
use Rattle.mt_json.proofs.OneLine.{one_line}
use Rattle.mt_write.specs.Entry.{entry_value}
use Rattle.mt_wire.proofs.EntryLaw.{text_back}
use Rattle.mt_history.specs.Printed.{AreReadAsEntries, printed}
use Rattle.mt_history.proofs.LinesRead.{read_first, read_none}

part_of : (text : List ℕ) → All (λ byte. 32 ≤ byte) text → IsPart text
part_of [] each = tt
part_of (b ∷ text) each =
    let above : 32 ≤ b = All-head (λ byte. 32 ≤ byte) b text each in
    (λ is. absurd (omega arith), part_of text (All-tail (λ byte. 32 ≤ byte) b text each))

first_printed : (e : Entry) (entries : List Entry) → lines_of (printed (e ∷ entries)) ≡ compact_text (entry_value e) ∷ lines_of (printed entries)
first_printed e entries =
    let text = compact_text (entry_value e) in
    ap lines_of (append_assoc text (10 ∷ []) (printed entries)) ∙ lines_of-first text (printed entries) (part_of text (one_line (entry_value e)))

-- printed entries are read as these
pub read_back : (entries : List Entry) → All IsComplete entries → AreReadAsEntries (lines_of (printed entries)) entries
read_back [] each = read_none
read_back (e ∷ entries) each =
    subst (λ (lines : List (List ℕ)). AreReadAsEntries lines (e ∷ entries)) (sym (first_printed e entries))
    (read_first (compact_text (entry_value e)) e (lines_of (printed entries)) entries (text_back e (All-head IsComplete e entries each))
    (read_back entries (All-tail IsComplete e entries each)))

-- so are the bytes that hold them, if there are any
pub bytes_read : (r : Result (Vec ℕ) Memory) (entries : List Entry) → All IsComplete entries → IfOk r (λ bytes. bytes.items ≡ printed entries)
    → IfOk r (λ bytes. AreReadAsEntries (lines_of bytes.items) entries)
bytes_read (Ok bytes) entries each e = subst (λ (text : List ℕ). AreReadAsEntries (lines_of text) entries) (sym e) (read_back entries each)
bytes_read (Err e) entries each h = tt
