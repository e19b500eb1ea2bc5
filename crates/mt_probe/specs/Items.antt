-- The items of a snapshot, which name the trajectories that are kept: those of the flight at a place are two items, an even one for the
-- trajectory that it flies and the odd one after it for its tentative one.
use Rattle.std.specs.Prelude.{◌≡◌, ◌↔◌, ◌≤◌, ℕ, ◌+◌, ◌*◌, ◌/◌, ◌%◌, List, [], Option, Some, None, Contains, get_or, length, option_map, nat_eq, if◌then◌else◌}
use Rattle.std.specs.Arc.{arc_value}
use Rattle.std.specs.List.{flat_map}
use Rattle.std.specs.List.Sorted.{IsStrictlyIncreasing}
use Rattle.std.specs.Str.{bytes_eq}
use Rattle.mt_base.specs.declared.conflict.Kind.{Kind}
use Rattle.mt_base.specs.declared.conflict.Kind.TheVariants.{Actual, Tentative}
use Rattle.mt_base.specs.declared.rules.Rules.{Rules}
use Rattle.mt_base.specs.Picture.{NamedTrajectory}
use Rattle.mt_base.specs.Trajectory.{Trajectory}
use Rattle.mt_cover.specs.declared.stays.Stay.{Stay}
use Rattle.mt_cover.specs.Cells.{Overlap, cover_of}
use Rattle.mt_probe.specs.declared.flight.Flight.{Flight}
use Rattle.mt_probe.specs.Shot.{Shot, made_named, made_of}

-- the kind that an item names
abbrev pub kind_at : ℕ → Kind
kind_at item = if nat_eq (item % 2) 0 then Actual else Tentative

-- a flight's trajectory of a kind, where it has one
abbrev pub path_of : Kind → Flight → Option Trajectory
path_of kind f = option_map (λ m. arc_value m.strand) (made_of f kind)

-- `stays_of_item`, `stays_by`: the stays of a trajectory that may be missing
abbrev pub stays_of_item : Rules → Option Trajectory → List Stay
stays_of_item rules None = []
stays_of_item rules (Some t) = cover_of rules t

abbrev pub stays_by : Rules → Kind → Option Flight → List Stay
stays_by rules kind None = []
stays_by rules kind (Some f) = stays_of_item rules (path_of kind f)

-- the stays of an item's trajectory
abbrev pub stays_at : Rules → List (Option Flight) → ℕ → List Stay
stays_at rules slots item = stays_by rules (kind_at item) (get_or slots (item / 2) None)

-- two stays share a cell and a second
pub record Meet (a b : Stay) : Type 0 where
  pub cell : b.cell ≡ a.cell
  pub common : Overlap a b.from b.to

-- an item's trajectory has a stay that meets the cover
pub record IsNearItem (shot : Shot) (cover : List Stay) (item : ℕ) : Type 0 where
  pub mine : Stay
  pub of : Contains cover mine
  pub theirs : Stay
  pub there : Contains (stays_at shot.setup.rules shot.slots item) theirs
  pub meet : Meet mine theirs

-- the items near a cover, rising, each once
pub record AreNearItems (shot : Shot) (cover : List Stay) (items : List ℕ) : Type 0 where
  pub rising : IsStrictlyIncreasing items
  pub same : (item : ℕ) → Contains items item ↔ IsNearItem shot cover item

-- a flight's trajectory, where its callsign is another
abbrev pub other_of : List ℕ → Kind → Option Flight → List NamedTrajectory
other_of call kind None = []
other_of call kind (Some f) = if bytes_eq f.card.call call then [] else made_named f.card.call kind (path_of kind f)

-- `other_at`, `others_among`: other flights' trajectories of an item, and of some
abbrev pub other_at : List ℕ → List (Option Flight) → ℕ → List NamedTrajectory
other_at call slots item = other_of call (kind_at item) (get_or slots (item / 2) None)

abbrev pub others_among : List ℕ → List (Option Flight) → List ℕ → List NamedTrajectory
others_among call slots items = flat_map (other_at call slots) items

-- at most two tests per other flight's trajectory near this one
abbrev pub WasTestedNear : Shot → List ℕ → Trajectory → ℕ → ℕ → Type 0
WasTestedNear shot call t old new = (items : List ℕ) → AreNearItems shot (cover_of shot.setup.rules t) items
    → new ≤ old + 2 * length (others_among call shot.slots items)
