-- No public contract names these: they are of private steps and of proofs.
-- The text of an object from its members: what stands before each value, the values, and what ends it.
use Rattle.std.specs.Prelude.{ℕ, pos, List, [], ◌∷◌, ◌++◌, false}
use Rattle.std.specs.Borrow.{Bor}
use Rattle.serde_json.specs.Data.{Data, Items, boolean, string}
use Rattle.serde_json.specs.Written.{compact_text, items_text}
use Rattle.mt_write.specs.declared.object.Datum.{Datum}
use Rattle.mt_write.specs.declared.object.Datum.TheVariants.{Whole, Count, Version, Truth, Callsign, FixName, Text, Level, Row, Tent, Hit}
use Rattle.mt_write.specs.Entry.{whole}
use Rattle.mt_write.specs.Flight.{or_null, row_value, tent_value}
use Rattle.mt_write.specs.Reply.{hit_value}

-- a member's value as data
abbrev pub data_of : Datum → Data
data_of (Whole z) = whole z.now
data_of (Count n) = whole (pos n)
data_of (Version n) = whole (pos n)
data_of (Truth b) = boolean b
data_of (Callsign call) = string call
data_of (FixName name) = string name
data_of (Text text) = string text.now
data_of (Level level) = or_null (λ n. whole (pos n)) level
data_of (Row row) = or_null row_value row.now
data_of (Tent tent) = or_null tent_value tent.now
data_of (Hit hit) = hit_value hit.now

-- what stands before a value, and the value
abbrev pub member_text : Bor (List ℕ) × Datum → List ℕ
member_text m = m.0.now ++ compact_text (data_of m.1)

-- members in order, and what ends them
abbrev pub ended_text : List ℕ → List (Bor (List ℕ) × Datum) → List ℕ
ended_text end [] = end
ended_text end (m ∷ ms) = member_text m ++ ended_text end ms

-- `object_text`, `line_text`: an object, and an object with 0x0A at its end
abbrev pub object_text : List (Bor (List ℕ) × Datum) → List ℕ
object_text = ended_text (125 ∷ [])

abbrev pub line_text : List (Bor (List ℕ) × Datum) → List ℕ
line_text ms = object_text ms ++ 10 ∷ []

-- such an object whose first member is a list: what stands before its first item, the items, and the other members
abbrev pub list_text : List ℕ → Items → List (Bor (List ℕ) × Datum) → List ℕ
list_text front items ms = front ++ ((items_text false items ++ object_text ms) ++ 10 ∷ [])
