use Rattle.std.specs.Prelude.{◌≡◌, ◌≢◌, ℕ, ◌+◌, List, [], ◌∷◌, Option, find, AllPairs, Contains, ◌↔◌}
use Rattle.std.specs.Str.{bytes_eq}
use Rattle.std.specs.List.{flat_map}
use Rattle.std.specs.Option.{option_map_or}
use Rattle.std.specs.List.Sorted.{IsStrictlySortedBy}
use Rattle.std.specs.Cmp.Lexicographic.{slice_cmp}
use Rattle.std.specs.Ordering.{nat_cmp, ordering_then}
use Rattle.std.specs.declared.cmp.Ordering.{Ordering}
use Rattle.std.specs.declared.cmp.Ordering.TheVariants.{Less, Equal, Greater}
use Rattle.mt_base.specs.declared.conflict.Conflict.{Conflict}
use Rattle.mt_base.specs.declared.conflict.Kind.{Kind}
use Rattle.mt_base.specs.declared.conflict.Kind.TheVariants.{Actual, Tentative}
use Rattle.mt_base.specs.declared.flight.Path.{Path}
use Rattle.mt_base.specs.declared.flight.Course.{Course}
use Rattle.mt_base.specs.declared.flight.Mark.{Mark}
use Rattle.mt_base.specs.declared.flight.Path.TheVariants.{Planned, Outer}
use Rattle.mt_base.specs.declared.flight.Record.{Record}
use Rattle.mt_base.specs.declared.rules.Rules.{Rules}
use Rattle.mt_base.specs.Conflict.{IsSpanOfLoss}
use Rattle.mt_base.specs.Predictor.{flown}
use Rattle.mt_base.specs.Tables.{Setup}
use Rattle.mt_base.specs.Trajectory.{Trajectory, straight}

-- a picture's state: the moment, flights in filing order, the version
pub record State : Type 0 where
  pub now : ℕ
  pub records : List Record
  pub version : ℕ

-- the state at first
abbrev pub opening : State
opening = record { now = 0; records = []; version = 0 }

-- the flight of that callsign
abbrev pub flight_of : List Record → List ℕ → Option Record
flight_of flights call = find (λ flight. bytes_eq flight.call call) flights

-- no two flights have one callsign
abbrev pub HaveOwnCalls : List Record → Type 0
HaveOwnCalls flights = AllPairs (λ f g. f.call ≢ g.call) flights

-- a trajectory with its flight's callsign and its kind
pub record NamedTrajectory : Type 0 where
  pub call : List ℕ
  pub kind : Kind
  pub path : Trajectory

-- `trajectory_of`, `trajectory_marked`: the trajectory that a flight flies, and its tentative clearance's
abbrev pub trajectory_of : Setup → Path → Trajectory
trajectory_of setup (Planned course) = flown setup course.kind course.route course.base course.level course.rvsm
trajectory_of setup (Outer stretch) = straight stretch

abbrev pub trajectory_marked : Setup → Course → Mark → Trajectory
trajectory_marked setup course mark = flown setup course.kind course.route mark.base mark.level course.rvsm

-- the tentative trajectory of a flight, where it has one
abbrev pub tentative_of : Setup → List ℕ → Path → List NamedTrajectory
tentative_of setup call (Outer stretch) = []
tentative_of setup call (Planned course) =
    option_map_or (λ mark. record { call = call; kind = Tentative; path = trajectory_marked setup course mark } ∷ []) course.mark []

-- a flight's trajectories, actual and tentative
abbrev pub trajectories_of : Setup → Record → List NamedTrajectory
trajectories_of setup flight =
    record { call = flight.call; kind = Actual; path = trajectory_of setup flight.path } ∷ tentative_of setup flight.call flight.path

-- all trajectories of a picture
abbrev pub trajectories : Setup → State → List NamedTrajectory
trajectories setup s = flat_map (trajectories_of setup) s.records

-- the end of the look-ahead, 1,200 seconds from the moment
abbrev pub window_end : ℕ → ℕ
window_end now = now + 1200

-- two trajectories have this conflict within the look-ahead. The lesser callsign stands first.
pub record IsConflictOf (rules : Rules) (now : ℕ) (left right : NamedTrajectory) (c : Conflict) : Type 0 where
  pub calls : (c.a ≡ left.call) × (c.b ≡ right.call)
  pub kinds : (c.ka ≡ left.kind) × (c.kb ≡ right.kind)
  pub apart : slice_cmp nat_cmp left.call right.call ≡ Less
  pub span : IsSpanOfLoss rules left.path right.path now (window_end now) c.first c.last

-- some two of these trajectories have this conflict
pub record IsConflictAmong (rules : Rules) (now : ℕ) (all : List NamedTrajectory) (c : Conflict) : Type 0 where
  pub left : NamedTrajectory
  pub right : NamedTrajectory
  pub left_in : Contains all left
  pub right_in : Contains all right
  pub is : IsConflictOf rules now left right c

-- actual before tentative
abbrev pub kind_cmp : Kind → Kind → Ordering
kind_cmp Actual Actual = Equal
kind_cmp Actual Tentative = Less
kind_cmp Tentative Actual = Greater
kind_cmp Tentative Tentative = Equal

-- the order of publishing: first second, callsigns, kinds. The last second comes last; where a flight has one trajectory of a kind, it decides
-- nothing.
abbrev pub conflict_cmp : Conflict → Conflict → Ordering
conflict_cmp c d = ordering_then (nat_cmp c.first d.first) (ordering_then (slice_cmp nat_cmp c.a d.a) (ordering_then (slice_cmp nat_cmp c.b d.b)
    (ordering_then (kind_cmp c.ka d.ka) (ordering_then (kind_cmp c.kb d.kb) (nat_cmp c.last d.last)))))

-- exactly the conflicts of these trajectories, each once, in order
pub record IsPublishedOf (rules : Rules) (now : ℕ) (all : List NamedTrajectory) (cs : List Conflict) : Type 0 where
  pub exact : (c : Conflict) → Contains cs c ↔ IsConflictAmong rules now all c
  pub sorted : IsStrictlySortedBy conflict_cmp cs

-- what is published of a state
abbrev pub IsPublished : Setup → State → List Conflict → Type 0
IsPublished setup s cs = IsPublishedOf setup.rules s.now (trajectories setup s) cs
