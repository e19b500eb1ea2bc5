-- What a value that was read stands for, in serde_json's words.
use Rattle.std.specs.Prelude.{ℕ, List, [], ◌∷◌, map}
use Rattle.std.specs.Borrow.{Bor}
use Rattle.serde_json.specs.Data.{Data, null, boolean, number, string, array, object, Items, Members, no_members, put}
use Rattle.serde_json.specs.View.{items_of, number_view}
use Rattle.mt_json.specs.declared.value.Value.{Value, fold-Value}
use Rattle.mt_json.specs.declared.value.Value.TheOpen.{Value-F}

-- members put in one by one; a key's last value stays
abbrev pub puts : List (Bor (List ℕ) × Data) → Members → Members
puts [] found = found
puts (m ∷ ms) found = puts ms (put m.0.now m.1 found)

-- one level of a value as data
abbrev pub view_step : Value-F Data → Data
view_step Value-F.Null = null
view_step (Value-F.Bool b) = boolean b
view_step (Value-F.Number n) = number (number_view n)
view_step (Value-F.Text s) = string s.now
view_step (Value-F.List v) = array (items_of v.items)
view_step (Value-F.Object v) = object (puts v.items no_members)

-- `view`, `items_view`, `members_view`: a value, a list and an object as data
abbrev pub view : Value → Data
view = fold-Value Data view_step

abbrev pub items_view : List Value → Items
items_view vs = items_of (map view vs)

abbrev pub members_view : List (Bor (List ℕ) × Value) → Members
members_view ms = puts (map (λ m. (m.0, view m.1)) ms) no_members
