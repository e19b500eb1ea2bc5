-- No public contract names these: they are of private steps and of proofs.
-- A line's fields, read one by one: the first fault of each of the two passes, and the values that stand where there is none.
use Rattle.std.specs.Prelude.{◌≡◌, Bool, List, [], Result, Ok, Err, ⊤}
use Rattle.serde_json.specs.Data.{Members}
use Rattle.mt_base.specs.Checks.{judged, next}
use Rattle.mt_json.specs.Shown.{members}
use Rattle.mt_read.specs.declared.key.Fault.{Fault}
use Rattle.mt_read.specs.declared.key.Fault.TheVariants.{Form, Range}
use Rattle.mt_read.specs.declared.reading.FieldReading.{FieldReading}
use Rattle.mt_read.specs.Field.{Field}
use Rattle.mt_base.specs.declared.rules.Rules.{Rules}
use Rattle.mt_read.specs.declared.request.Request.{Request}
use Rattle.mt_read.specs.declared.request.Request.TheVariants as request
use Rattle.mt_read.specs.Line.{kinds}
use Rattle.mt_read.specs.Rules.{rule_bounds, rules_with}
use Rattle.mt_read.specs.Table.{Layout}

-- a reading with one fault more: it stands in its pass where none stood
abbrev pub with_fault : Fault → FieldReading → FieldReading
with_fault (Form key) s = record s { form = next s.form (Err (Form key)) }
with_fault (Range key) s = record s { range = next s.range (Err (Range key)) }

-- a value that was found where its kind and its bounds are right; else the fault of the first that isn't
abbrev pub IsValueRead : {A : Type 0} → Result A Fault → Result ⊤ Fault → Result ⊤ Fault → A → Type 0
IsValueRead (Ok y) kind bounds x = (kind ≡ Ok (tt {0})) × (bounds ≡ Ok (tt {0})) × (y ≡ x)
IsValueRead (Err (Form key)) kind bounds x = kind ≡ Err (Form key)
IsValueRead (Err (Range key)) kind bounds x = (kind ≡ Ok (tt {0})) × (bounds ≡ Err (Range key))

-- of one line, a reading that goes on by a pass's answers, and what holds of the value where both pass
pub record ReadsOn (s t : FieldReading) (kind bounds : Result ⊤ Fault) (Stands : Type 0) : Type 0 where
  pub line : t.fields ≡ s.fields
  pub origin : t.origin ≡ s.origin
  pub form : t.form ≡ next s.form kind
  pub range : kind ≡ Ok (tt {0}) → t.range ≡ next s.range bounds
  pub stands : kind ≡ Ok (tt {0}) → bounds ≡ Ok (tt {0}) → Stands

-- these fields were read and these bounds tested, in their order
pub record Reads {A : Type 0} (s t : FieldReading) (fields : List Field) (bounds : Members → List (Fault × Bool)) (asks : Members → A) (read : A) : Type 0 where
  pub goes : ReadsOn s t (kinds s.origin fields (members s.fields)) (judged (bounds (members s.fields)) (tt {0})) (read ≡ asks (members s.fields))

-- a row's fields were read
abbrev pub ReadsRow : {A : Type 0} → FieldReading → FieldReading → Layout A → A → Type 0
ReadsRow s t row read = Reads s t row.fields row.bounds row.asks read

-- the checks of the rules as they would stand by what is asked
abbrev pub standing : Rules → Request → List (Fault × Bool)
standing rules (request.Rule set) = rule_bounds (rules_with set rules)
standing rules asked = []
