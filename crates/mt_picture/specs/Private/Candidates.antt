-- No public contract names these: they are of private steps and of proofs.
-- Where trajectories stand, and which of them are candidates of a new one.
use Rattle.std.specs.Prelude.{◌≡◌, ◌≢◌, ◌≤◌, ◌/◌, ◌++◌, ℕ, Bool, false, List, filter, map, get_or, slice_get, AllPairs, Contains, Option, Some, None, nat_lt, option_and_then, option_map}
use Rattle.mt_base.specs.declared.command.Entry.{Entry}
use Rattle.mt_base.specs.declared.conflict.Kind.{Kind}
use Rattle.mt_cover.specs.Sliced.{Sliced}
use Rattle.mt_kept.specs.declared.finds.Candidate.{Candidate}
use Rattle.mt_kept.specs.declared.finds.Knowledge.TheVariants.{Known, Within}
use Rattle.mt_kept.specs.Finds.{candidate_place}
use Rattle.mt_meet.specs.declared.table.Met.{Met}
use Rattle.mt_probe.specs.declared.finding.Found.{Found}
use Rattle.mt_probe.specs.declared.flight.Flight.{Flight}
use Rattle.mt_probe.specs.declared.flight.Made.{Made}
use Rattle.mt_probe.specs.Items.{kind_at}
use Rattle.mt_probe.specs.Meeting.{AreMetItems}
use Rattle.mt_probe.specs.Prepared.{MakesStrand}
use Rattle.mt_probe.specs.Shot.{Shot, made_of}

-- in a place stands that kind of trajectory of that flight, made at that version
pub record StandsInPlace (slots : List (Option Flight)) (place : ℕ) (call : List ℕ) (kind : Kind) (stamp : ℕ) : Type 0 where
  pub flight : Flight
  pub made : Made
  pub at_is : get_or slots (place / 2) None ≡ Some flight
  pub call_is : flight.card.call ≡ call
  pub kind_is : kind_at place ≡ kind
  pub made_is : made_of flight kind ≡ Some made
  pub stamp_is : made.stamp ≡ stamp

-- a find's candidate, in the place where its trajectory stands, made by that version
pub record IsStill (slots : List (Option Flight)) (version : ℕ) (found : Found) (x : Candidate) : Type 0 where
  pub stamp : ℕ
  pub stands : StandsInPlace slots x.place found.call found.kind stamp
  pub early : stamp ≤ version
  pub knowledge_is : x.knowledge ≡ Known found.whole found.solid

-- so stands the candidate of one of some finds
pub record IsStillOne (slots : List (Option Flight)) (version : ℕ) (finds : List Found) (x : Candidate) : Type 0 where
  pub found : Found
  pub held : Contains finds found
  pub is : IsStill slots version found x

-- of these finds those that stand, made by that version, each once, with what was found
pub record AreStill (slots : List (Option Flight)) (version : ℕ) (finds : List Found) (xs : List Candidate) : Type 0 where
  pub sound : (x : Candidate) → Contains xs x → IsStillOne slots version finds x
  pub complete : (found : Found) (place stamp : ℕ) → Contains finds found → StandsInPlace slots place found.call found.kind stamp → stamp ≤ version
      → Contains (map candidate_place xs) place
  pub once : AllPairs (λ x y. x.place ≢ y.place) xs

-- the version at which what stands in a place was made, where a trajectory stands there
abbrev pub stamp_at : List (Option Flight) → ℕ → Option ℕ
stamp_at slots place = option_map (λ m. m.stamp) (option_and_then (λ f. made_of f (kind_at place)) (get_or slots (place / 2) None))

-- a version is after another one; no version is not
abbrev pub is_after : ℕ → Option ℕ → Bool
is_after version None = false
is_after version (Some stamp) = nat_lt version stamp

-- what stands in a place was made after that version
abbrev pub is_made_since : List (Option Flight) → ℕ → ℕ → Bool
is_made_since slots version place = is_after version (stamp_at slots place)

-- no trajectory that stands was made after that version
abbrev pub IsNoneSince : List (Option Flight) → ℕ → Type 0
IsNoneSince slots version = (place : ℕ) → is_made_since slots version place ≡ false

-- no entry after the first ones makes a trajectory
abbrev pub IsNoneMade : List Entry → ℕ → Type 0
IsNoneMade h version = (n : ℕ) (entry : Entry) → version ≤ n → slice_get h n ≡ Some entry → ¬ MakesStrand entry.command

-- what meets a new trajectory, as a candidate: they lose separation only in the seconds in which their slices meet
abbrev pub candidate_met : Met → Candidate
candidate_met met = record { place = met.item; knowledge = Within met.first met.last }

-- what meets a new trajectory and was made after a version, as candidates, in order
pub record AreMetSince (shot : Shot) (mine : Sliced) (version : ℕ) (xs : List Candidate) : Type 0 where
  pub list : List Met
  pub met : AreMetItems shot mine list
  pub is : xs ≡ map candidate_met (filter (λ met. is_made_since shot.slots version met.item) list)

-- these candidates stand behind others
pub record AreAddedSince (shot : Shot) (mine : Sliced) (version : ℕ) (old new : List Candidate) : Type 0 where
  pub more : List Candidate
  pub met : AreMetSince shot mine version more
  pub is : new ≡ old ++ more
