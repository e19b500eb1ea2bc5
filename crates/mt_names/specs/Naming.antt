-- Callsigns in order, each with the place of its flight.
use Rattle.std.specs.Prelude.{◌≡◌, ◌≢◌, ◌<◌, ◌↔◌, ℕ, List, Option, Some, None, Contains, get_or, length, slice_set, ⊤}
use Rattle.mt_names.specs.declared.names.Named.{Named}

-- the place listed for a callsign, or none
abbrev pub IsPlaceOf : List Named → List ℕ → Option ℕ → Type 0
IsPlaceOf names call (Some slot) = Contains names (record { call = call; slot = slot })
IsPlaceOf names call None = (n : Named) → Contains names n → n.call ≢ call

-- each callsign is listed with its place, and no other
abbrev pub AreNamed : List Named → List (Option (List ℕ)) → Type 0
AreNamed names calls = (n : Named) → Contains names n ↔ (get_or calls n.slot None ≡ Some n.call)

-- no other place has that callsign
abbrev pub IsOnlyAt : List (Option (List ℕ)) → ℕ → Option (List ℕ) → Type 0
IsOnlyAt calls slot None = ⊤
IsOnlyAt calls slot (Some call) = (i : ℕ) → i ≢ slot → get_or calls i None ≢ Some call

-- one callsign at a place can be replaced by another. Either may be none; no other place has either of them.
pub record CanStand (calls : List (Option (List ℕ))) (slot : ℕ) (old new : Option (List ℕ)) : Type 0 where
  pub inside : slot < length calls
  pub was : get_or calls slot None ≡ old
  pub old_only : IsOnlyAt calls slot old
  pub new_only : IsOnlyAt calls slot new

-- the list follows when a place's callsign changes
abbrev pub IsRenaming : List Named → ℕ → Option (List ℕ) → Option (List ℕ) → List Named → Type 0
IsRenaming names slot old new after = (calls : List (Option (List ℕ))) → CanStand calls slot old new → AreNamed names calls
    → AreNamed after (slice_set calls slot new)
