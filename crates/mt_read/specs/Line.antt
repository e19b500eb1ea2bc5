-- What a line is read as.
use Rattle.std.specs.Prelude.{◌≡◌, ℕ, pos, ◌-◌, ◌^◌, Bool, List, [], ◌∷◌, ◌++◌, map, flat_map, codes, slice_get, Option, Some, None, option_and_then, Result, Ok, Err, ⊤, if◌then◌else◌}
use Rattle.std.specs.Str.{is_utf8}
use Rattle.serde_json.specs.Data.{Data, Members}
use Rattle.serde_json.specs.Find.{as_object, as_str, get_member}
use Rattle.serde_json.specs.Read.{read}
use Rattle.mt_base.specs.declared.rules.Rules.{Rules}
use Rattle.mt_base.specs.Checks.{judged}
use Rattle.mt_json.specs.Field.{as_whole}
use Rattle.mt_json.specs.Keys.{keys, other_key_at}
use Rattle.mt_read.specs.declared.key.Fault.{Fault}
use Rattle.mt_read.specs.declared.key.Fault.TheVariants as fault
use Rattle.mt_read.specs.declared.key.Key.TheVariants as key
use Rattle.mt_read.specs.declared.origin.Origin.{Origin}
use Rattle.mt_read.specs.declared.origin.Origin.TheVariants.{Line, Entry}
use Rattle.mt_read.specs.declared.request.LineNo.{LineNo}
use Rattle.mt_read.specs.declared.request.LineNo.TheVariants.{Json, Form, Range, Memory}
use Rattle.mt_read.specs.declared.request.Sender.{Sender}
use Rattle.mt_read.specs.declared.request.Sender.TheVariants as sender
use Rattle.mt_read.specs.declared.request.Request.{Request}
use Rattle.mt_read.specs.declared.word.Word.{Word}
use Rattle.mt_read.specs.declared.word.Word.TheVariants as word
use Rattle.mt_read.specs.Field.{Field, bound, count, kind_check, may, must_have, number}
use Rattle.mt_read.specs.Key.{key_text}
use Rattle.mt_read.specs.Rules.{rule_bounds, rules_with, set_in}
use Rattle.mt_read.specs.Table.{Layout, layout_of}
use Rattle.mt_read.specs.Words.{may_send, word_of}

infixl 10 ◌>>=◌
abbrev pub ◌>>=◌ : {A B : Type 0} → Result A Fault → (A → Result B Fault) → Result B Fault
Ok x >>= f = f x
Err e >>= f = Err e

-- ---- who asks: in a script a field with a default, in an entry one that must be there, in a session none

-- `who_fields`, `who_bounds`, `who_in`: the field that says who asks. A script's line may leave it out, an entry must have it, a session's line has
-- none.
abbrev pub who_fields : Origin → List Field
who_fields (Line sender.Replay) = may key.Who as_whole ∷ []
who_fields Entry = must_have key.Who as_whole ∷ []
who_fields origin = []

abbrev pub who_bounds : Origin → Members → List (Fault × Bool)
who_bounds (Line sender.Replay) ms = bound key.Who (pos 0) (pos 15) (number key.Who ms) ∷ []
who_bounds Entry ms = bound key.Who (pos 0) (pos (2 ^ 32 - 1)) (number key.Who ms) ∷ []
who_bounds origin ms = []

abbrev pub who_in : Origin → Members → ℕ
who_in (Line sender.Replay) ms = count key.Who ms
who_in Entry ms = count key.Who ms
who_in origin ms = 0

-- ---- the members of a command

-- the fields' presence and kinds, in order
abbrev pub kinds : Origin → List Field → Members → Result ⊤ Fault
kinds origin fields ms = judged (map (kind_check origin ms) fields) (tt {0})

-- what a command's members ask for, after presence and kind, bounds, further checks. First each field's presence and kind, the actor's last; then
-- each field's bounds, the actor's last; then some checks more.
unfoldable pub checked : {A : Type 0} → Origin → List (Fault × Bool) → Layout A → Members → Result (ℕ × A) Fault
checked origin more row ms = do
  _ ← kinds origin row.fields ms
  _ ← kinds origin (who_fields origin) ms
  _ ← judged (row.bounds ms) (tt {0})
  who ← judged (who_bounds origin ms) (who_in origin ms)
  _ ← judged more (tt {0})
  Ok (who, row.asks ms)

-- `named_fault`, `as_line_refusal`: a refusal with its key's text
abbrev pub named_fault : Fault → LineNo
named_fault (fault.Form key) = Form (key_text key)
named_fault (fault.Range key) = Range (key_text key)

abbrev pub as_line_refusal : {A : Type 0} → Result A Fault → Result A LineNo
as_line_refusal (Ok asked) = Ok asked
as_line_refusal (Err f) = Err (named_fault f)

-- the keys that may stand, with a space after each
abbrev pub keys_of : Origin → List Field → List ℕ
keys_of origin fields = codes "do " ++ flat_map (λ field. key_text field.key ++ 32 ∷ []) (fields ++ who_fields origin)

-- `least_other`, `unless_other`: the least other key, which refuses the line
abbrev pub least_other : List ℕ → Members → Option (List ℕ)
least_other allowed ms = option_and_then (slice_get (keys ms)) (other_key_at allowed ms)

abbrev pub unless_other : {A : Type 0} → Option (List ℕ) → Result A LineNo → Result A LineNo
unless_other (Some key) r = Err (Form key)
unless_other None r = r

-- no other keys, and all checks of a row
abbrev pub read_layout : {A : Type 0} → Origin → List (Fault × Bool) → Layout A → Members → Result (ℕ × A) LineNo
read_layout origin more row ms = unless_other (least_other (keys_of origin row.fields) ms) (as_line_refusal (checked origin more row ms))

-- the text of the member `do`
abbrev pub word_text : Members → Option (List ℕ)
word_text ms = option_and_then as_str (get_member (codes "do") ms)

-- ---- a value that is an object

-- `read_object`, `read_value`: JSON, then an object, then its members
abbrev pub read_object : {A : Type 0} → (Members → Result A LineNo) → Option Members → Result A LineNo
read_object reading None = Err (Form [])
read_object reading (Some ms) = reading ms

abbrev pub read_value : {A : Type 0} → (Members → Result A LineNo) → Option Data → Result A LineNo
read_value reading None = Err Json
read_value reading (Some d) = read_object reading (as_object d)

-- the value that serde_json reads from bytes
abbrev pub decoded : List ℕ → Option Data
decoded bytes = if is_utf8 bytes then read bytes else None

-- ---- lines

-- `allowed_word`, `word_in`: the command that `do` names, where the sender has it
abbrev pub allowed_word : Sender → Word → Option Word
allowed_word sender word = if may_send sender word then Some word else None

abbrev pub word_in : Sender → Members → Option Word
word_in sender ms = option_and_then (allowed_word sender) (option_and_then word_of (word_text ms))

-- `standing_rules`, `of_word`: the checks of the rules as a line would set them, and what its command's row reads
abbrev pub standing_rules : Word → Rules → Members → List (Fault × Bool)
standing_rules word.Rule rules ms = rule_bounds (rules_with (set_in ms) rules)
standing_rules w rules ms = []

abbrev pub of_word : Sender → Rules → Members → Option Word → Result (ℕ × Request) LineNo
of_word sender rules ms None = Err (Form (codes "do"))
of_word sender rules ms (Some word) = read_layout (Line sender) (standing_rules word rules ms) (layout_of word) ms

-- what an object's members are read as
abbrev pub read_members : Sender → Rules → Members → Result (ℕ × Request) LineNo
read_members sender rules ms = of_word sender rules ms (word_in sender ms)

-- what a sender's line is read as: JSON, an object, its command, no other key, its fields. In this order; the rules are those that stand.
abbrev pub line : Sender → Rules → List ℕ → Result (ℕ × Request) LineNo
line sender rules bytes = read_value (read_members sender rules) (decoded bytes)

-- the answer is that reading, or that memory ran out
abbrev pub GivesReading : {A : Type 0} → Result A LineNo → Result A LineNo → Type 0
GivesReading (Err Memory) r = ⊤
GivesReading answer r = answer ≡ r
