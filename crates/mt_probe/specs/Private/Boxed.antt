-- No public contract names these: they are of private steps and of proofs.
-- How a snapshot keeps the slices of its trajectories.
use Rattle.std.specs.Prelude.{◌≡◌, ℕ, ◌+◌, ◌*◌, ◌<◌, ◌≤◌, List, Option, Some, None, Contains, get_or, length, option_map, slice_set, IfSome}
use Rattle.std.specs.Arc.{arc_value}
use Rattle.std.specs.Int.{bit_at}
use Rattle.mt_base.specs.declared.conflict.Kind.{Kind}
use Rattle.mt_base.specs.declared.conflict.Kind.TheVariants.{Actual, Tentative}
use Rattle.mt_base.specs.declared.rules.Rules.{Rules}
use Rattle.mt_base.specs.Picture.{NamedTrajectory}
use Rattle.mt_cover.specs.Sliced.{Sliced, slices_of}
use Rattle.mt_meet.specs.declared.table.Met.{Met}
use Rattle.mt_meet.specs.Meeting.{MeetAt}
use Rattle.mt_meet.specs.Searching.{item_at, part_at}
use Rattle.mt_meet.specs.declared.marked_parts.MarkedParts.{MarkedParts}
use Rattle.mt_meet.specs.declared.search.Search.{Search}
use Rattle.mt_track.specs.Laid.{IsStrand}
use Rattle.mt_probe.specs.declared.flight.Flight.{Flight}
use Rattle.mt_probe.specs.declared.flight.Made.{Made}
use Rattle.mt_probe.specs.Private.Indexed.{Indexed, IsIndexOf}
use Rattle.mt_probe.specs.Meeting.{IsMetOf, slices_at, slices_by}
use Rattle.mt_probe.specs.Shot.{Shot, kept_of}
use Rattle.mt_probe.specs.Standing.{IsSoundShot}

-- a table has the slices of each kept trajectory, at its item, and of nothing else
pub record HoldsSlices (rules : Rules) (slots : List (Option Flight)) (table : List (Option Sliced)) : Type 0 where
  pub items : length table ≡ 2 * length slots
  pub held : (item : ℕ) → get_or table item None ≡ slices_at rules slots item

-- a snapshot is sound, its table has the slices of its trajectories, and its index has its flights
pub record IsSnapshotKept (shot : Shot) (table : List (Option Sliced)) (index : Indexed) : Type 0 where
  pub sound : IsSoundShot shot
  pub holds : HoldsSlices shot.setup.rules shot.slots table
  pub indexed : IsIndexOf shot.slots index

-- the item that names a kind of trajectory of the flight at a place
abbrev pub item_of : ℕ → Kind → ℕ
item_of slot Actual = 2 * slot
item_of slot Tentative = 2 * slot + 1

-- the slices of a trajectory that was made, where one was
abbrev pub slices_made : Rules → Option Made → Option Sliced
slices_made rules made = option_map (slices_of rules) (option_map (λ m. arc_value m.strand) made)

-- a table has the slices of the trajectory of a kind of what is put at a place
abbrev pub HasSlicesOf : Rules → List (Option Sliced) → ℕ → Option Flight → Kind → Type 0
HasSlicesOf rules table slot x kind = get_or table (item_of slot kind) None ≡ slices_by rules kind x

-- these are the slices of the trajectory of a kind of what is put at a place
abbrev pub AreSlicesOf : Rules → Kind → Option Flight → Sliced → Type 0
AreSlicesOf rules kind x slices = Some slices ≡ slices_by rules kind x

-- the table with the slices of what is put at a place
abbrev pub table_with : Rules → ℕ → Option Flight → List (Option Sliced) → List (Option Sliced)
table_with rules slot x table =
    slice_set (slice_set table (2 * slot) (slices_by rules Actual x)) (2 * slot + 1) (slices_by rules Tentative x)

-- each trajectory that is kept of a flight is one of segments
abbrev pub AreLaid : Flight → Type 0
AreLaid f = (t : NamedTrajectory) → Contains (kept_of f) t → IsStrand t.path

-- the trajectory that an item names, where it names one, has no slices that meet some
abbrev pub IsNotMet : Shot → Sliced → ℕ → Type 0
IsNotMet shot mine item = (theirs : Sliced) (k : ℕ) → slices_at shot.setup.rules shot.slots item ≡ Some theirs → ¬ MeetAt shot.setup.rules mine theirs k

-- the trajectories that the items of a page name are met in no second but those of their marked parts
abbrev pub MeetOnlyMarkedOn : Shot → Sliced → ℕ → MarkedParts → Type 0
MeetOnlyMarkedOn shot mine page marks = (place : ℕ) → place < 64 → (theirs : Sliced) (k : ℕ) → slices_at shot.setup.rules shot.slots (item_at page place) ≡ Some theirs
    → MeetAt shot.setup.rules mine theirs k → bit_at (get_or marks.parts place 0) (part_at mine k) ≡ 1

-- a search by some slices: the marks of its pages are right
abbrev pub IsSearchedIn : Shot → Sliced → Search → Type 0
IsSearchedIn shot mine search = IfSome search.block (λ block.
    MeetOnlyMarkedOn shot mine (2 * block) search.even × MeetOnlyMarkedOn shot mine (2 * block + 1) search.odd)

-- it is the first item, from one on, whose trajectory has slices that meet some
pub record IsFirstMetOf (shot : Shot) (mine : Sliced) (from : ℕ) (met : Met) : Type 0 where
  pub begun : from ≤ met.item
  pub is : IsMetOf shot mine met
  pub none_before : (item : ℕ) → from ≤ item → item < met.item → IsNotMet shot mine item

-- the first item, from one on, whose trajectory has slices that meet some; or none has
abbrev pub IsNextMetOf : Shot → Sliced → ℕ → Option Met → Type 0
IsNextMetOf shot mine from (Some met) = IsFirstMetOf shot mine from met
IsNextMetOf shot mine from None = (item : ℕ) → from ≤ item → IsNotMet shot mine item
