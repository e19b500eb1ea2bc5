-- No public contract names these: they are of private steps and of proofs.
-- The hits among the finds of a slot.
use Rattle.std.specs.Prelude.{◌≡◌, ◌↔◌, ℕ, ◌%◌, List, Contains, Option, Some, None, Bool, nat_eq, ◌&&◌, slice_get, if◌then◌else◌}
use Rattle.std.specs.List.Sorted.{IsStrictlySortedBy}
use Rattle.std.specs.Str.{bytes_eq}
use Rattle.mt_base.specs.declared.conflict.Conflict.{Conflict}
use Rattle.mt_base.specs.declared.hit.Hit.{Hit}
use Rattle.mt_base.specs.WhatIf.{hit_cmp}
use Rattle.mt_kept.specs.declared.open_pair.OpenPair.{OpenPair}
use Rattle.mt_kept.specs.Made.{is_open_pair}

-- a conflict as a hit of the flight of that callsign
abbrev pub conflict_hit : List ℕ → Option Conflict → Option Hit
conflict_hit call None = None
conflict_hit call (Some c) = Some (record { first = c.first; with = if bytes_eq c.a call then c.b else c.a; last = c.last })

-- `is_flown`, `pair_hit`: both trajectories are actual; the hit of an open pair of such
abbrev pub is_flown : OpenPair → Bool
is_flown o = nat_eq (o.edge.a % 2) 0 && nat_eq (o.edge.b % 2) 0

abbrev pub pair_hit : List ℕ → ℕ → OpenPair → Option Hit
pair_hit call now o = if is_flown o && is_open_pair now o.edge then conflict_hit call o.conflict else None

-- a hit of one of some finds
pub record IsHitOfOnePair (finds : List OpenPair) (call : List ℕ) (now : ℕ) (hit : Hit) : Type 0 where
  pub pair : OpenPair
  pub held : Contains finds pair
  pub is : pair_hit call now pair ≡ Some hit

-- all hits of some finds, in order
pub record AreHitsAmong (finds : List OpenPair) (call : List ℕ) (now : ℕ) (hits : List Hit) : Type 0 where
  pub members : (hit : Hit) → Contains hits hit ↔ IsHitOfOnePair finds call now hit
  pub sorted : IsStrictlySortedBy hit_cmp hits

-- the first hit of some finds
pub record IsFirstAmong (finds : List OpenPair) (call : List ℕ) (now : ℕ) (first : Option Hit) : Type 0 where
  pub hits : List Hit
  pub all : AreHitsAmong finds call now hits
  pub first_is : first ≡ slice_get hits 0
