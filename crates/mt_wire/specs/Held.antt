-- Values whose numbers are whole and held by 64 bits.
use Rattle.std.specs.Prelude.{pos, negsuc, ◌+◌, ◌<◌, ◌^◌, ⊤}
use Rattle.serde_json.specs.Data.{Num, unsigned, negative, float, Data, null, boolean, number, string, array, object, Items, no_items, item, Members, no_members, member}

-- from -2^63 + 1 to 2^64 - 1
abbrev pub IsWireNumber : Num → Type 0
IsWireNumber (unsigned n) = n < 2 ^ 64
IsWireNumber (negative (pos n)) = ⊥
IsWireNumber (negative (negsuc n)) = n + 1 < 2 ^ 63
IsWireNumber (float x) = ⊥

abbrev mutual
  -- `HoldsWhole`, `ItemsHoldWhole`, `MembersHoldWhole`: a value, a list, an object whose numbers are whole and of 64 bits
  pub HoldsWhole : Data → Type 0
  HoldsWhole null = ⊤
  HoldsWhole (boolean b) = ⊤
  HoldsWhole (number n) = IsWireNumber n
  HoldsWhole (string s) = ⊤
  HoldsWhole (array ds) = ItemsHoldWhole ds
  HoldsWhole (object ms) = MembersHoldWhole ms

  pub ItemsHoldWhole : Items → Type 0
  ItemsHoldWhole no_items = ⊤
  ItemsHoldWhole (item d ds) = HoldsWhole d × ItemsHoldWhole ds

  pub MembersHoldWhole : Members → Type 0
  MembersHoldWhole no_members = ⊤
  MembersHoldWhole (member k d ms) = HoldsWhole d × MembersHoldWhole ms
