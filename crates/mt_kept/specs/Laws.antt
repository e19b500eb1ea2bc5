-- What callers know of finds, besides what the calls say.
use Rattle.std.specs.Prelude.{◌≡◌, ◌≢◌, ℕ, ◌+◌, ◌*◌, List, [], length, map, filter, AllPairs, Contains, Option, None}
use Rattle.std.specs.List.{sum_by}
use Rattle.std.specs.List.Sorted.{IsStrictlyIncreasing}
use Rattle.mt_base.specs.declared.rules.Rules.{Rules}
use Rattle.mt_base.specs.Picture.{NamedTrajectory}
use Rattle.mt_kept.specs.declared.finds.Candidate.{Candidate}
use Rattle.mt_kept.specs.declared.open_pair.OpenPair.{OpenPair}
use Rattle.mt_kept.specs.Finds.{AreFindsAt, AreFindsOfPlaces, asks_one, asks_two, cost, candidate_place}
use Rattle.mt_kept.specs.Places.{at}

-- one place's finds are those of all changed places where the others are empty
abbrev pub FindsOfOne : Type 0
FindsOfOne = (rules : Rules) (after : List (Option NamedTrajectory)) (now : ℕ) (changed : List ℕ) (place : ℕ) (finds : List OpenPair)
    → Contains changed place → ((i : ℕ) → Contains changed i → i ≢ place → at after i ≡ None) → AreFindsAt rules after now place finds
    → AreFindsOfPlaces rules after now changed finds

-- empty places have no finds
abbrev pub FindsOfNone : Type 0
FindsOfNone = (rules : Rules) (after : List (Option NamedTrajectory)) (now : ℕ) (changed : List ℕ)
    → ((i : ℕ) → Contains changed i → at after i ≡ None) → AreFindsOfPlaces rules after now changed []

-- candidates with rising places are listed once
abbrev pub RisingIsOnce : Type 0
RisingIsOnce = (xs : List Candidate) → IsStrictlyIncreasing (map candidate_place xs) → AllPairs (λ x y. x.place ≢ y.place) xs

-- tests are two per candidate whose conflict isn't known, one per straddling
abbrev pub CostsAdd : Type 0
CostsAdd = (places : List (Option NamedTrajectory)) (place : ℕ) (call : List ℕ) (now : ℕ) (xs : List Candidate)
    → sum_by (cost places place call now) xs
    ≡ 2 * length (filter (asks_two places place call) xs) + length (filter (asks_one places place call now) xs)
