-- No public contract names these: they are of private steps and of proofs.
-- Who is there, as a snapshot keeps it beside its places.
use Rattle.std.specs.Prelude.{◌≡◌, ◌<◌, ℕ, List, Option, Some, None, true, get_or, is_some, length, map, option_map}
use Rattle.mt_names.specs.declared.names.Named.{Named}
use Rattle.mt_names.specs.Naming.{AreNamed, CanStand}
use Rattle.mt_probe.specs.declared.flight.Flight.{Flight}
use Rattle.mt_probe.specs.Shot.{flights_in}

-- `call_at_place`, `calls_in`: the callsign at a place, and those at all places
abbrev pub call_at_place : Option Flight → Option (List ℕ)
call_at_place at = option_map (λ f. f.card.call) at

abbrev pub calls_in : List (Option Flight) → List (Option (List ℕ))
calls_in slots = map call_at_place slots

-- so many places, from the first one on, are filled
abbrev pub AreFilled : List (Option Flight) → ℕ → Type 0
AreFilled slots n = (i : ℕ) → i < n → is_some (get_or slots i None) ≡ true

-- callsigns with their places, how many flights there are, and how many places are known to be filled. The filled ones are from the first place on.
pub record Indexed : Type 0 where
  pub names : List Named
  pub held : ℕ
  pub filled : ℕ

-- the index has exactly the flights at some places
pub record IsIndexOf (slots : List (Option Flight)) (index : Indexed) : Type 0 where
  pub names : AreNamed index.names (calls_in slots)
  pub held : index.held ≡ length (flights_in slots)
  pub filled : AreFilled slots index.filled

-- the first place that is free; or each is filled
abbrev pub IsFirstFree : List (Option Flight) → Option ℕ → Type 0
IsFirstFree slots (Some slot) = (slot < length slots) × (get_or slots slot None ≡ None) × AreFilled slots slot
IsFirstFree slots None = AreFilled slots (length slots)

-- a flight, or none, can stand at a place: no other place has its callsign, or that of the flight there
abbrev pub CanBeAt : List (Option Flight) → ℕ → Option Flight → Type 0
CanBeAt slots slot new = CanStand (calls_in slots) slot (call_at_place (get_or slots slot None)) (call_at_place new)
