-- The items whose trajectories have slices that meet those of a new one.
use Rattle.std.specs.Prelude.{◌≡◌, ℕ, ◌/◌, ◌<◌, List, Option, Some, None, Contains, AllPairs, get_or, option_map}
use Rattle.mt_base.specs.declared.conflict.Kind.{Kind}
use Rattle.mt_base.specs.declared.rules.Rules.{Rules}
use Rattle.mt_cover.specs.Sliced.{Sliced, slices_of}
use Rattle.mt_meet.specs.declared.table.Met.{Met}
use Rattle.mt_meet.specs.Meeting.{IsHullOf, IsItemListed, MeetAt}
use Rattle.mt_probe.specs.declared.flight.Flight.{Flight}
use Rattle.mt_probe.specs.Items.{kind_at, path_of}
use Rattle.mt_probe.specs.Shot.{Shot}

-- the slices of a flight's trajectory of a kind, where it has one
abbrev pub slices_by : Rules → Kind → Option Flight → Option Sliced
slices_by rules kind None = None
slices_by rules kind (Some f) = option_map (slices_of rules) (path_of kind f)

-- the slices of the trajectory that an item names
abbrev pub slices_at : Rules → List (Option Flight) → ℕ → Option Sliced
slices_at rules slots item = slices_by rules (kind_at item) (get_or slots (item / 2) None)

-- the trajectory that an item names has slices that meet some, in a first and a last second
pub record IsMetOf (shot : Shot) (mine : Sliced) (met : Met) : Type 0 where
  pub theirs : Sliced
  pub there : slices_at shot.setup.rules shot.slots met.item ≡ Some theirs
  pub hull : IsHullOf (MeetAt shot.setup.rules mine theirs) met.first met.last

-- The items whose trajectories have slices that meet some, rising, each once.
pub record AreMetItems (shot : Shot) (mine : Sliced) (list : List Met) : Type 0 where
  pub rising : AllPairs (λ (m n : Met). m.item < n.item) list
  pub exact : (met : Met) → Contains list met → IsMetOf shot mine met
  pub complete : (item : ℕ) (theirs : Sliced) (k : ℕ) → slices_at shot.setup.rules shot.slots item ≡ Some theirs → MeetAt shot.setup.rules mine theirs k
      → IsItemListed list item
