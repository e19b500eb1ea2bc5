-- What is found for a trajectory among those of other flights.
use Rattle.std.specs.Prelude.{◌≡◌, ◌≢◌, ℕ, ◌<◌, ◌≤◌, ◌⊎◌, ◌↔◌, List, map, Contains, AllPairs, Option, Some, None, Bool, true, false, if◌then◌else◌, not, ◌==◌, ◌&&◌}
use Rattle.std.specs.Str.{bytes_eq}
use Rattle.mt_base.specs.declared.rules.Rules.{Rules}
use Rattle.mt_base.specs.Conflict.{IsConflict, IsLossSecond}
use Rattle.mt_base.specs.Picture.{NamedTrajectory}
use Rattle.mt_base.specs.Trajectory.{Trajectory, horizon}
use Rattle.mt_edges.specs.Pairs.{HaveSameEnds}
use Rattle.mt_base.specs.Span.{IsSolid}
use Rattle.mt_kept.specs.declared.finds.Candidate.{Candidate}
use Rattle.mt_kept.specs.declared.finds.Knowledge.{Knowledge}
use Rattle.mt_kept.specs.declared.finds.Knowledge.TheVariants.{Known, Within}
use Rattle.mt_kept.specs.declared.open_pair.OpenPair.{OpenPair}
use Rattle.mt_kept.specs.Losing.{IsPair, Joins, LoseSeparation, Touches, TouchesOne}
use Rattle.mt_kept.specs.Places.{at}
use Rattle.mt_kept.specs.Window.{IsOpen, ShowsInWindow, edge_of, is_straddling}

-- two trajectories lose separation only from a first to a last second. The last is one of all seconds.
pub record LoseWithin (rules : Rules) (a b : Trajectory) (first last : ℕ) : Type 0 where
  pub inside : (k : ℕ) → IsLossSecond rules a b k → (first ≤ k) × (k ≤ last)
  pub early : last < horizon

-- what is known of two trajectories is right: where they may lose separation, or their conflict over all seconds, solid where it is said to be so
abbrev pub IsRight : Rules → NamedTrajectory → NamedTrajectory → Knowledge → Type 0
IsRight rules mine other (Within first last) = LoseWithin rules mine.path other.path first last
IsRight rules mine other (Known span solid) = IsConflict rules mine.path other.path 0 horizon span
    × (solid ≡ true → IsSolid (IsLossSecond rules mine.path other.path) span)

-- at another place stands this trajectory of another flight
pub record IsOfOtherFlight (places : List (Option NamedTrajectory)) (place : ℕ) (mine : NamedTrajectory) (j : ℕ) (other : NamedTrajectory) : Type 0 where
  pub is : at places j ≡ Some other
  pub elsewhere : j ≢ place
  pub apart : mine.call ≢ other.call

-- the place of a candidate
abbrev pub candidate_place : Candidate → ℕ
candidate_place x = x.place

-- every other flight's trajectory with a loss second is a candidate, listed once. What is known of the listed ones is right.
pub record AreCandidates (rules : Rules) (places : List (Option NamedTrajectory)) (place : ℕ) (mine : NamedTrajectory)
    (xs : List Candidate) : Type 0 where
  pub right : (x : Candidate) (other : NamedTrajectory) → Contains xs x → IsOfOtherFlight places place mine x.place other
      → IsRight rules mine other x.knowledge
  pub complete : (j k : ℕ) (other : NamedTrajectory) → IsOfOtherFlight places place mine j other → k < horizon
      → IsLossSecond rules mine.path other.path k → Contains (map candidate_place xs) j
  pub once : AllPairs (λ x y. x.place ≢ y.place) xs

-- a place has the new trajectory; other places stay, as far as other flights go
pub record Agree (places after : List (Option NamedTrajectory)) (place : ℕ) (mine : NamedTrajectory) : Type 0 where
  pub here : at after place ≡ Some mine
  pub there : (i : ℕ) (t : NamedTrajectory) → i ≢ place → mine.call ≢ t.call → (at after i ≡ Some t) ↔ (at places i ≡ Some t)

-- exactly one place's pairs, with what open ones show
pub record AreFindsAt (rules : Rules) (places : List (Option NamedTrajectory)) (now place : ℕ) (finds : List OpenPair) : Type 0 where
  pub sound : (o : OpenPair) → Contains finds o
      → Touches place o.edge × IsPair rules places o.edge × (IsOpen now o.edge → ShowsInWindow rules places now o.edge o.conflict)
  pub complete : (a b k : ℕ) → a < b → (a ≡ place) ⊎ (b ≡ place) → LoseSeparation rules places a b k → Joins (map edge_of finds) a b
  pub distinct : AllPairs (λ o p. ¬ HaveSameEnds o.edge p.edge) finds

-- exactly the pairs of some places, with what open ones show
pub record AreFindsOfPlaces (rules : Rules) (places : List (Option NamedTrajectory)) (now : ℕ) (changed : List ℕ) (finds : List OpenPair) : Type 0 where
  pub sound : (o : OpenPair) → Contains finds o
      → TouchesOne changed o.edge × IsPair rules places o.edge × (IsOpen now o.edge → ShowsInWindow rules places now o.edge o.conflict)
  pub complete : (a b k : ℕ) → a < b → Contains changed a ⊎ Contains changed b → LoseSeparation rules places a b k → Joins (map edge_of finds) a b
  pub distinct : AllPairs (λ o p. ¬ HaveSameEnds o.edge p.edge) finds

-- a trajectory of another callsign
abbrev pub is_other : Option NamedTrajectory → List ℕ → Bool
is_other None call = false
is_other (Some t) call = not (bytes_eq t.call call)

-- a candidate of another flight, at another place
abbrev pub is_listed : List (Option NamedTrajectory) → ℕ → List ℕ → Candidate → Bool
is_listed places place call x = not (x.place == place) && is_other (at places x.place) call

-- one test where a known conflict straddles an edge
abbrev pub cost_known : ℕ → Option (ℕ × ℕ) → ℕ
cost_known now None = 0
cost_known now (Some span) = if is_straddling now span.0 span.1 then 1 else 0

-- two tests where the conflict isn't known
abbrev pub cost_of : ℕ → Knowledge → ℕ
cost_of now (Within first last) = 2
cost_of now (Known span solid) = cost_known now span

-- the tests that a candidate needs
abbrev pub cost : List (Option NamedTrajectory) → ℕ → List ℕ → ℕ → Candidate → ℕ
cost places place call now x = if is_listed places place call x then cost_of now x.knowledge else 0

-- `is_unknown`, `is_crossing`: the conflict isn't known; the one that is known straddles an edge of the window
abbrev pub is_unknown : Knowledge → Bool
is_unknown (Within first last) = true
is_unknown (Known span solid) = false

abbrev pub is_crossing : ℕ → Knowledge → Bool
is_crossing now (Within first last) = false
is_crossing now (Known None solid) = false
is_crossing now (Known (Some span) solid) = is_straddling now span.0 span.1

-- `asks_two`, `asks_one`: the candidates that need two tests, and one
abbrev pub asks_two : List (Option NamedTrajectory) → ℕ → List ℕ → Candidate → Bool
asks_two places place call x = is_listed places place call x && is_unknown x.knowledge

abbrev pub asks_one : List (Option NamedTrajectory) → ℕ → List ℕ → ℕ → Candidate → Bool
asks_one places place call now x = is_listed places place call x && is_crossing now x.knowledge
