-- Restricted areas, and which seconds of a trajectory pass through one.
use Rattle.std.specs.Prelude.{◌≡◌, ◌≢◌, ℕ, ℤ, pos, ◌+◌, ◌*◌, ◌<◌, ◌≤◌, ◌-ℤ◌, ◌*ℤ◌, ◌<ℤ◌, ◌≤ℤ◌, List, All, length, get_or, Option, Some, nat_lt, if◌then◌else◌}
use Rattle.mt_base.specs.declared.area.Area.{Area}
use Rattle.mt_base.specs.declared.row.Row.{Row}
use Rattle.mt_base.specs.Bounds.{IsInPlane}
use Rattle.mt_base.specs.Instant.{value_at}
use Rattle.mt_base.specs.Span.{IsSpan}
use Rattle.mt_base.specs.Trajectory.{Trajectory, row_at}

-- the cross product, above 0 where the second vector points left of the first
abbrev pub cross : ℤ → ℤ → ℤ → ℤ → ℤ
cross x y u v = x *ℤ v -ℤ y *ℤ u

-- `corner`, `place_after`: the corner at a place, and the next place. The first corner follows the last.
abbrev pub corner : List (ℤ × ℤ) → ℕ → ℤ × ℤ
corner corners i = get_or corners i (pos 0, pos 0)

abbrev pub place_after : List (ℤ × ℤ) → ℕ → ℕ
place_after corners i = if nat_lt (i + 1) (length corners) then i + 1 else 0

-- a point lies left of the line from one corner to another. The point's coordinates are given times d.
abbrev pub LiesLeft : ℤ × ℤ → ℤ × ℤ → ℤ → ℤ → ℤ → Type 0
LiesLeft i j x y d = pos 0 <ℤ cross (j.0 -ℤ i.0) (j.1 -ℤ i.1) (x -ℤ d *ℤ i.0) (y -ℤ d *ℤ i.1)

-- all other corners lie left of the side that begins at this place
abbrev pub HasAllLeft : List (ℤ × ℤ) → ℕ → Type 0
HasAllLeft corners i = (k : ℕ) → k < length corners → k ≢ i → k ≢ place_after corners i
    → LiesLeft (corner corners i) (corner corners (place_after corners i)) (corner corners k).0 (corner corners k).1 (pos 1)

-- the polygon is strictly convex, with counterclockwise corners
abbrev pub AreConvex : List (ℤ × ℤ) → Type 0
AreConvex corners = (i : ℕ) → i < length corners → HasAllLeft corners i

-- an area's bottom is below its top, its hours aren't empty, its corners are convex
pub record HasRightShape (area : Area) : Type 0 where
  pub levels : area.bottom < area.top
  pub hours : area.from < area.to
  pub convex : AreConvex area.corners

-- 3 to 16 corners in the plane, levels up to 600, bounded hours. The hours begin by second 10,000,000 and end by 10,014,400.
pub record IsBoundedArea (area : Area) : Type 0 where
  pub some : 3 ≤ length area.corners
  pub few : length area.corners ≤ 16
  pub each : All (λ (c : ℤ × ℤ). IsInPlane c.0 c.1) area.corners
  pub bottom : area.bottom ≤ 600
  pub top : area.top ≤ 600
  pub begins : area.from ≤ 10000000
  pub ends : area.to ≤ 10014400

-- at instant n/d the position is strictly inside the area. It is above the bottom, below the top, and to the left of each side.
pub record IsInsideAt (area : Area) (row : Row) (n d : ℤ) : Type 0 where
  pub above : (pos (6000 * area.bottom) *ℤ d) <ℤ value_at row.z row.vz n d
  pub below : value_at row.z row.vz n d <ℤ (pos (6000 * area.top) *ℤ d)
  pub left : (i : ℕ) → i < length area.corners
      → LiesLeft (corner area.corners i) (corner area.corners (place_after area.corners i)) (value_at row.x row.vx n d) (value_at row.y row.vy n d) d

-- the position is inside at some instant of the second
pub record IsInside (area : Area) (row : Row) : Type 0 where
  pub n : ℤ
  pub d : ℤ
  pub begun : pos 0 ≤ℤ n
  pub within : n <ℤ d
  pub at : IsInsideAt area row n d

-- a trajectory is inside the area in second k, within its hours. It covers the second, and at some instant of it the position is strictly inside.
pub record IsInsideSecond (t : Trajectory) (area : Area) (k : ℕ) : Type 0 where
  pub row : Row
  pub row_is : row_at t k ≡ Some row
  pub hours : (area.from ≤ k) × (k < area.to)
  pub inside : IsInside area row

-- the first and the last second inside the area, of a range, or none
abbrev pub IsPierce : Trajectory → Area → ℕ → ℕ → Option (ℕ × ℕ) → Type 0
IsPierce t area from to span = IsSpan (IsInsideSecond t area) from to span
