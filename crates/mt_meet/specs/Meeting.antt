-- Trajectories whose slices meet: only these can lose separation.
use Rattle.std.specs.Prelude.{◌≡◌, ◌≤◌, ◌<◌, ◌&&◌, Bool, ℕ, List, AllPairs, Contains, Option, Some, None, get_or, length}
use Rattle.mt_base.specs.declared.rules.Rules.{Rules}
use Rattle.mt_base.specs.Bounds.{AreWithinBounds}
use Rattle.mt_base.specs.Conflict.{IsLossSecond}
use Rattle.mt_base.specs.Trajectory.{Trajectory}
use Rattle.mt_track.specs.Laid.{IsStrand}
use Rattle.mt_cover.specs.declared.sliced.Slice.{Slice}
use Rattle.mt_cover.specs.Cells.{ShareAt, cover_of}
use Rattle.mt_cover.specs.Sliced.{Have, Sliced, TouchBoth, slice_at, slices_of}
use Rattle.mt_meet.specs.Heights.{LieApart}
use Rattle.mt_pair.specs.High.{level_of}
use Rattle.mt_meet.specs.declared.table.Met.{Met}

-- two slices touch, and lie within the vertical minimum
pub record SlicesMeet (rules : Rules) (approved : Bool) (a b : Slice) : Type 0 where
  pub touch : TouchBoth a b
  pub heights : ¬ LieApart rules (level_of approved) a.layer b.layer

-- in second k slices of both meet
pub record MeetAt (rules : Rules) (a b : Sliced) (k : ℕ) : Type 0 where
  pub left : Have a k
  pub right : Have b k
  pub meet : SlicesMeet rules (a.rvsm && b.rvsm) (slice_at a k) (slice_at b k)

-- the first and the last second with P
pub record IsHullOf (P : ℕ → Type 0) (first last : ℕ) : Type 0 where
  pub first_is : P first
  pub last_is : P last
  pub none_outside : (k : ℕ) → P k → (first ≤ k) × (k ≤ last)

-- in a loss second the slices meet
abbrev pub LosingMeet : Type 0
LosingMeet = (rules : Rules) (a b : Trajectory) (k : ℕ) → AreWithinBounds rules → IsStrand a → IsStrand b → IsLossSecond rules a b k
    → MeetAt rules (slices_of rules a) (slices_of rules b) k

-- where slices meet in a second, covers share a cell
abbrev pub MeetingIsNear : Type 0
MeetingIsNear = (rules : Rules) (a b : Trajectory) (k : ℕ) → AreWithinBounds rules → IsStrand a → IsStrand b
    → MeetAt rules (slices_of rules a) (slices_of rules b) k → ShareAt (cover_of rules a) (cover_of rules b) k

-- slices for which others are looked for, by some rules
pub record Asked : Type 0 where
  pub rules : Rules
  pub sliced : Sliced

-- this item's slices meet ours from first to last
pub record IsMetIn (rules : Rules) (mine : Sliced) (table : List (Option Sliced)) (met : Met) : Type 0 where
  pub theirs : Sliced
  pub there : get_or table met.item None ≡ Some theirs
  pub hull : IsHullOf (MeetAt rules mine theirs) met.first met.last

-- an item meets ours so, or in no second
abbrev pub IsMetAt : Rules → Sliced → List (Option Sliced) → ℕ → Option Met → Type 0
IsMetAt rules mine table item (Some met) = (met.item ≡ item) × IsMetIn rules mine table met
IsMetAt rules mine table item None = (theirs : Sliced) (k : ℕ) → get_or table item None ≡ Some theirs → ¬ MeetAt rules mine theirs k

-- an item is listed
pub record IsItemListed (list : List Met) (item : ℕ) : Type 0 where
  pub met : Met
  pub held : Contains list met
  pub is : met.item ≡ item

-- exactly the items that meet ours, rising, each once
pub record AreMet (rules : Rules) (mine : Sliced) (table : List (Option Sliced)) (list : List Met) : Type 0 where
  pub rising : AllPairs (λ (m n : Met). m.item < n.item) list
  pub exact : (met : Met) → Contains list met → IsMetIn rules mine table met
  pub complete : (item : ℕ) (theirs : Sliced) (k : ℕ) → get_or table item None ≡ Some theirs → MeetAt rules mine theirs k → IsItemListed list item

-- no item of a range meets ours
abbrev pub MeetNone : Rules → Sliced → List (Option Sliced) → ℕ → ℕ → Type 0
MeetNone rules mine table from end = (item : ℕ) → from ≤ item → item < end → IsMetAt rules mine table item None

-- the first item from a place on that meets ours
pub record IsFirstMet (rules : Rules) (mine : Sliced) (table : List (Option Sliced)) (from : ℕ) (met : Met) : Type 0 where
  pub begun : from ≤ met.item
  pub is : IsMetIn rules mine table met
  pub none_before : MeetNone rules mine table from met.item

-- the next item that meets ours, or none
abbrev pub IsNextMet : Rules → Sliced → List (Option Sliced) → ℕ → Option Met → Type 0
IsNextMet rules mine table from (Some met) = IsFirstMet rules mine table from met
IsNextMet rules mine table from None = MeetNone rules mine table from (length table)
