use Rattle.std.specs.Prelude.{◌≡◌, ℕ, Bool, true, List, length, Option, Some, None, nat_le, ◌&&◌, ◌||◌, if◌then◌else◌}
use Rattle.std.specs.List.{list_all}

-- a capital letter or a digit
abbrev pub is_letter : ℕ → Bool
is_letter b = (nat_le 65 b && nat_le b 90) || (nat_le 48 b && nat_le b 57)

-- `low` to `high` capital letters and digits
abbrev pub is_name : ℕ → ℕ → List ℕ → Bool
is_name low high text = nat_le low (length text) && nat_le (length text) high && list_all is_letter text

-- the name that a text is, or none
abbrev pub name_of : ℕ → ℕ → List ℕ → Option (List ℕ)
name_of low high text = if is_name low high text then Some text else None

-- 1 to 7 capital letters or digits
abbrev pub IsCallsign : List ℕ → Type 0
IsCallsign text = is_name 1 7 text ≡ true

-- 2 to 5 of these
abbrev pub IsFixName : List ℕ → Type 0
IsFixName text = is_name 2 5 text ≡ true

-- 2 to 4 of these
abbrev pub IsTypeName : List ℕ → Type 0
IsTypeName text = is_name 2 4 text ≡ true
