-- A field of an object: the value at a key, asked for by its kind.
use Rattle.std.specs.Prelude.{ℕ, ℤ, ◌&&◌, int_le, List, Bool, Option, Some, None, option_and_then, Result, Ok, Err, if◌then◌else◌}
use Rattle.serde_json.specs.Data.{Data, Items, Members}
use Rattle.serde_json.specs.Find.{get_member, as_bool, as_number, as_integer, as_str, as_array}
use Rattle.mt_json.specs.declared.bad.Bad.{Bad}
use Rattle.mt_json.specs.declared.bad.Bad.TheVariants.{Missing, Kind, Range}

-- an `Ok` value under f
abbrev pub result_map : {A B E : Type 0} → (A → B) → Result A E → Result B E
result_map f (Ok x) = Ok (f x)
result_map f (Err e) = Err e

-- a value read, or Kind
abbrev pub or_kind : {A : Type 0} → Option A → Result A Bad
or_kind None = Err Kind
or_kind (Some x) = Ok x

-- the value read, Missing without one, or Kind
abbrev pub of_kind : {A : Type 0} → (Data → Option A) → Option Data → Result A Bad
of_kind kind None = Err Missing
of_kind kind (Some d) = or_kind (kind d)

-- a whole number of 64 bits. No number with a point or an exponent, beyond 64 bits, or `-0`.
abbrev pub as_whole : Data → Option ℤ
as_whole d = option_and_then as_integer (as_number d)

-- a number from low to high, or Range
abbrev pub within_bounds : ℤ → ℤ → Result ℤ Bad → Result ℤ Bad
within_bounds low high (Err bad) = Err bad
within_bounds low high (Ok n) = if int_le low n && int_le n high then Ok n else Err Range

-- the text at a key
abbrev pub word_at : List ℕ → Members → Result (List ℕ) Bad
word_at key ms = of_kind as_str (get_member key ms)

-- the truth value at a key
abbrev pub flag_at : List ℕ → Members → Result Bool Bad
flag_at key ms = of_kind as_bool (get_member key ms)

-- the whole number at a key, within bounds
abbrev pub whole_at : List ℕ → ℤ → ℤ → Members → Result ℤ Bad
whole_at key low high ms = within_bounds low high (of_kind as_whole (get_member key ms))

-- the items of the list at a key
abbrev pub list_at_key : List ℕ → Members → Result Items Bad
list_at_key key ms = of_kind as_array (get_member key ms)
