-- No public contract names these: they are of private steps and of proofs.
-- Where trajectories are in some seconds, as boxes, and the areas that lie apart from those.
use Rattle.std.specs.Prelude.{◌≡◌, ◌⊎◌, ℕ, ℤ, pos, ◌*◌, ◌*ℤ◌, ◌<ℤ◌, ◌≤ℤ◌, List, All, Some}
use Rattle.mt_base.specs.declared.area.Area.{Area}
use Rattle.mt_base.specs.declared.row.Row.{Row}
use Rattle.mt_base.specs.Bounds.{IsHeight, IsInPlane}
use Rattle.mt_base.specs.Instant.{value_at}
use Rattle.mt_base.specs.Trajectory.{Trajectory, row_at}
use Rattle.mt_area.specs.declared.volume.Interval.{Interval}
use Rattle.mt_area.specs.declared.volume.Volume.{Volume}

-- `IsWithinInterval`, `HoldsAt`: a number is within an interval, and a value with a gain is at instant n/d
pub record IsWithinInterval (e : Interval) (z : ℤ) : Type 0 where
  pub low : e.low ≤ℤ z
  pub high : z ≤ℤ e.high

pub record HoldsAt (e : Interval) (z gain n d : ℤ) : Type 0 where
  pub low : (e.low *ℤ d) ≤ℤ value_at z gain n d
  pub high : value_at z gain n d ≤ℤ (e.high *ℤ d)

-- the second of two intervals holds what the first one does
pub record IsWiderInterval (e wider : Interval) : Type 0 where
  pub low : wider.low ≤ℤ e.low
  pub high : e.high ≤ℤ wider.high

-- a row is in the plane, at a height that a row can have
abbrev pub IsPlaced : Row → Type 0
IsPlaced row = IsInPlane row.x row.y × IsHeight row.z

-- `HoldsRow`, `HoldsRowAt`: a volume holds a row at the start of its second, and at instant n/d of it
pub record HoldsRow (volume : Volume) (row : Row) : Type 0 where
  pub x : IsWithinInterval volume.x row.x
  pub y : IsWithinInterval volume.y row.y
  pub z : IsWithinInterval volume.z row.z

pub record HoldsRowAt (volume : Volume) (row : Row) (n d : ℤ) : Type 0 where
  pub x : HoldsAt volume.x row.x row.vx n d
  pub y : HoldsAt volume.y row.y row.vy n d
  pub z : HoldsAt volume.z row.z row.vz n d

-- `HoldsSecond`, `IsWiderVolume`: a volume holds a trajectory's second k, if it is covered; a volume holds all of another
abbrev pub HoldsSecond : Volume → Trajectory → ℕ → Type 0
HoldsSecond volume t k = (row : Row) → row_at t k ≡ Some row → (n d : ℤ) → pos 0 ≤ℤ n → n <ℤ d → HoldsRowAt volume row n d

pub record IsWiderVolume (volume wider : Volume) : Type 0 where
  pub x : IsWiderInterval volume.x wider.x
  pub y : IsWiderInterval volume.y wider.y
  pub z : IsWiderInterval volume.z wider.z

-- an area ends below some heights or begins above them
abbrev pub AreHeightsApart : Area → Interval → Type 0
AreHeightsApart area z = (z.high ≤ℤ pos (6000 * area.bottom)) ⊎ (pos (6000 * area.top) ≤ℤ z.low)

-- `AreWestOrEast`, `AreSouthOrNorth`: all corners lie on one side of some positions
abbrev pub AreWestOrEast : List (ℤ × ℤ) → Interval → Type 0
AreWestOrEast corners x = All (λ (c : ℤ × ℤ). c.0 <ℤ x.low) corners ⊎ All (λ (c : ℤ × ℤ). x.high <ℤ c.0) corners

abbrev pub AreSouthOrNorth : List (ℤ × ℤ) → Interval → Type 0
AreSouthOrNorth corners y = All (λ (c : ℤ × ℤ). c.1 <ℤ y.low) corners ⊎ All (λ (c : ℤ × ℤ). y.high <ℤ c.1) corners

-- the boxes of an area and of a volume lie apart
abbrev pub AreBoxesApart : Area → Volume → Type 0
AreBoxesApart area volume = AreHeightsApart area volume.z ⊎ (AreWestOrEast area.corners volume.x ⊎ AreSouthOrNorth area.corners volume.y)
