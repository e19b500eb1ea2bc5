-- What was written of an entry is read as that entry.
use Rattle.std.proofs.Common.{◌≡◌, ℕ, List, [], ◌∷◌, ◌++◌, Option, Some, Ok, IsUtf8, refl, sym, ap, ◌∙◌, append-nil}
use Rattle.std.specs.Prelude.{option_and_then}
use Rattle.std.proofs.lemmas.Str.{IsUtf8-append}
use Rattle.json.specs.Json as json
use Rattle.json.specs.Token.{Token}
use Rattle.json.specs.Tree as tree
use Rattle.json.specs.Lex.{tokens}
use Rattle.json.specs.Print.{print}
use Rattle.json.proofs.Printed.Trees.{ArePrintable-json_tokens}
use Rattle.json.proofs.Printed.Utf8.{IsUtf8-are_ascii}
use Rattle.serde_json.specs.Data.{Data}
use Rattle.serde_json.specs.Read.{max_depth, of_json, read}
use Rattle.serde_json.specs.Written.{compact_text, outline}
use Rattle.serde_json.proofs.Texts.{print-outline}
use Rattle.mt_base.specs.declared.command.Entry.{Entry}
use Rattle.mt_base.specs.Complete.{IsComplete}
use Rattle.mt_read.specs.Entry.{as_entry, entry, held_in}
use Rattle.mt_read.specs.Line.{read_value}
use Rattle.mt_read.proofs.Decoding.{decoded_some}
use Rattle.mt_write.specs.Entry.{entry_text, entry_value}
use Rattle.mt_wire.specs.Held.{HoldsWhole}
use Rattle.mt_wire.proofs.CompleteEntries.{held_entry, plain_entry}
use Rattle.mt_wire.proofs.EntryBack.{entry_back}
use Rattle.mt_wire.proofs.MembersRead.{members_read}
use Rattle.mt_wire.proofs.PlainText.{utf8_value}
use Rattle.mt_wire.proofs.ReadBack.{held_value}
use Rattle.mt_wire.proofs.TrailingLine.{tokens-line}

-- what tokens are read as
abbrev parsed : List Token → Option Data
parsed ts = option_and_then of_json (option_and_then (λ p. json.if_last p.0 p.1) (json.value max_depth ts))

-- an end of line after a value changes nothing
line_read : (d : Data) → HoldsWhole d → read (compact_text d ++ 10 ∷ []) ≡ read (compact_text d)
line_read d h =
    let ts = tree.json_tokens (outline d) in
    let same : compact_text d ≡ print ts = sym (print-outline d) in
    ap parsed (ap (λ (text : List ℕ). tokens (text ++ 10 ∷ [])) same ∙ tokens-line ts (ArePrintable-json_tokens (outline d) (held_value d h)) ∙ ap tokens (append-nil (print ts)) ∙ ap tokens (sym same))

entry_held : (e : Entry) → IsComplete e → HoldsWhole (entry_value e)
entry_held e c = held_entry e.who e.command c.timed c.bounded c.who

entry_utf8 : (e : Entry) → IsComplete e → IsUtf8 (compact_text (entry_value e))
entry_utf8 e c = utf8_value (entry_value e) (entry_held e c) (plain_entry e.who e.command c.names)

-- bytes of which serde_json reads an entry's value
read_as : (e : Entry) → IsComplete e → (bytes : List ℕ) → IsUtf8 bytes → read bytes ≡ Some (entry_value e) → entry bytes ≡ Ok e
read_as e c bytes utf8 is =
    ap (λ (o : Option Data). as_entry (read_value held_in o)) (decoded_some bytes (entry_value e) utf8 is)
    ∙ ap as_entry (members_read e.who e.command c.names c.timed c.bounded c.who)

pub text_back : (e : Entry) → IsComplete e → entry (compact_text (entry_value e)) ≡ Ok e
text_back e c = read_as e c (compact_text (entry_value e)) (entry_utf8 e c) (entry_back e (entry_held e c))

pub line_back : (e : Entry) → IsComplete e → entry (entry_text e) ≡ Ok e
line_back e c =
    read_as e c (entry_text e) (IsUtf8-append (compact_text (entry_value e)) (10 ∷ []) (entry_utf8 e c) (IsUtf8-are_ascii (10 ∷ []) refl))
    (line_read (entry_value e) (entry_held e c) ∙ entry_back e (entry_held e c))
