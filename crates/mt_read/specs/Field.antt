-- The fields of a line: what is read of one, and what is checked of one.
use Rattle.std.specs.Prelude.{ℕ, ℤ, pos, ◌&&◌, not, int_le, Bool, true, false, List, [], ◌∷◌, codes, Option, Some, None, is_some, option_and_then, option_map, unwrap_or, unsigned_abs, if◌then◌else◌}
use Rattle.std.specs.Option.{option_map_or}
use Rattle.std.specs.Str.{bytes_eq}
use Rattle.serde_json.specs.Data.{Data, Items, no_items, item, Members}
use Rattle.serde_json.specs.Find.{as_array, as_str, get_member}
use Rattle.mt_base.specs.declared.role.Role.{Role}
use Rattle.mt_base.specs.declared.role.Role.TheVariants.{Feed, Position}
use Rattle.mt_base.specs.Name.{name_of}
use Rattle.mt_json.specs.Field.{as_whole}
use Rattle.mt_read.specs.declared.key.Key.{Key}
use Rattle.mt_read.specs.declared.key.Fault.{Fault}
use Rattle.mt_read.specs.declared.key.Fault.TheVariants.{Form, Range}
use Rattle.mt_read.specs.declared.origin.Origin.{Origin}
use Rattle.mt_read.specs.declared.origin.Origin.TheVariants.{Line, Entry}
use Rattle.mt_read.specs.Key.{key_text}

-- a callsign, 1 to 7 capital letters and digits
abbrev pub as_call : Data → Option (List ℕ)
as_call d = option_and_then (name_of 1 7) (as_str d)

-- a fix name, 2 to 5 of these
abbrev pub as_fix : Data → Option (List ℕ)
as_fix d = option_and_then (name_of 2 5) (as_str d)

-- a type name, 2 to 4 of these
abbrev pub as_type : Data → Option (List ℕ)
as_type d = option_and_then (name_of 2 4) (as_str d)

-- each item of a list, or none where one fails
abbrev pub each_of : {A : Type 0} → (Data → Option A) → Items → Option (List A)
each_of kind no_items = Some []
each_of kind (item d ds) = option_and_then (λ x. option_map (λ xs. x ∷ xs) (each_of kind ds)) (kind d)

-- a list whose items are of a kind
abbrev pub as_list_of : {A : Type 0} → (Data → Option A) → Data → Option (List A)
as_list_of kind d = option_and_then (each_of kind) (as_array d)

-- `role_of`, `as_role`: a role: `feed` or `position`
abbrev pub role_of : List ℕ → Option Role
role_of text = if bytes_eq text (codes "feed") then Some Feed else (if bytes_eq text (codes "position") then Some Position else None)

abbrev pub as_role : Data → Option Role
as_role d = option_and_then role_of (as_str d)

-- an object stands for a line
abbrev pub is_line : Origin → Bool
is_line (Line sender) = true
is_line Entry = false

-- a field: key, when absent, when present, its kind. Whether it may be absent from a line or an entry, whether it may stand in it, and the values
-- that are of its kind.
pub record Field : Type 0 where
  pub key : Key
  pub may_lack : Origin → Members → Bool
  pub may_stand : Members → Bool
  pub kind : Data → Bool

-- `is_present`, `is_of`, `must_have`: a key that is present; a value of a kind; a field that must stand
abbrev pub is_present : Key → Members → Bool
is_present key ms = is_some (get_member (key_text key) ms)

abbrev pub is_of : {A : Type 0} → (Data → Option A) → Data → Bool
is_of kind d = is_some (kind d)

abbrev pub must_have : {A : Type 0} → Key → (Data → Option A) → Field
must_have key kind = record { key = key; may_lack = λ origin ms. false; may_stand = λ ms. true; kind = is_of kind }

-- a field that a line may leave out. It has a default; an entry has all its fields.
abbrev pub may : {A : Type 0} → Key → (Data → Option A) → Field
may key kind = record { key = key; may_lack = λ origin ms. is_line origin; may_stand = λ ms. true; kind = is_of kind }

-- a field that an entry may leave out too
abbrev pub free : {A : Type 0} → Key → (Data → Option A) → Field
free key kind = record { key = key; may_lack = λ origin ms. true; may_stand = λ ms. true; kind = is_of kind }

-- `first_of_two`, `second_of_two`: two fields, exactly one of which stands. Where neither does, the first is missing; where both do, the second is
-- one too many.
abbrev pub first_of_two : {A : Type 0} → Key → (Data → Option A) → Key → Field
first_of_two key kind other = record { key = key; may_lack = λ origin ms. is_present other ms; may_stand = λ ms. true; kind = is_of kind }

abbrev pub second_of_two : {A : Type 0} → Key → (Data → Option A) → Key → Field
second_of_two key kind other = record { key = key; may_lack = λ origin ms. true; may_stand = λ ms. not (is_present other ms); kind = is_of kind }

-- a key's presence and its value's kind are right
abbrev pub form_check : Key → Bool → Bool → (Data → Bool) → Members → Fault × Bool
form_check key may_lack may_stand kind ms = (Form key, option_map_or (λ d. may_stand && kind d) (get_member (key_text key) ms) may_lack)

-- a field's presence and kind are right
abbrev pub kind_check : Origin → Members → Field → Fault × Bool
kind_check origin ms field = form_check field.key (field.may_lack origin ms) (field.may_stand ms) field.kind ms

-- a field's value, none where absent or another kind
abbrev pub read_at : {A : Type 0} → Key → (Data → Option A) → Members → Option A
read_at key kind ms = option_and_then kind (get_member (key_text key) ms)

-- the number at a key, by default 0
abbrev pub number : Key → Members → ℤ
number key ms = unwrap_or (read_at key as_whole ms) (pos 0)

-- the number at a key, not below 0
abbrev pub count : Key → Members → ℕ
count key ms = unsigned_abs (number key ms)

-- that number, or none where it is absent
abbrev pub count_if_there : Key → Members → Option ℕ
count_if_there key ms = option_map unsigned_abs (read_at key as_whole ms)

-- a number within bounds
abbrev pub bound : Key → ℤ → ℤ → ℤ → Fault × Bool
bound key low high z = (Range key, int_le low z && int_le z high)
