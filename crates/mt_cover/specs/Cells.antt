-- The cells that a trajectory meets: the plane is cut into 64 by 64 cells, and its seconds, from its start, into slices of 256.
use Rattle.std.specs.Prelude.{◌≡◌, ℕ, suc, ◌+◌, ◌-◌, ◌*◌, ◌/◌, ◌<◌, ◌≤◌, min, ℤ, pos, negsuc, ◌+ℤ◌, List, [], ◌∷◌, length, take, drop, map, Contains}
use Rattle.std.specs.Int.{div_ceil}
use Rattle.std.specs.List.{flat_map, range_with_len}
use Rattle.mt_base.specs.declared.row.Row.{Row}
use Rattle.mt_base.specs.declared.rules.Rules.{Rules}
use Rattle.mt_base.specs.Bounds.{AreWithinBounds}
use Rattle.mt_base.specs.Conflict.{IsLossSecond}
use Rattle.mt_base.specs.Trajectory.{Trajectory}
use Rattle.mt_track.specs.Laid.{IsStrand}
use Rattle.mt_cover.specs.declared.bounding_box.BoundingBox.{BoundingBox}
use Rattle.mt_cover.specs.declared.bounding_box.Extent.{Extent}
use Rattle.mt_cover.specs.declared.stays.Stay.{Stay}
use Rattle.mt_cover.specs.Box.{box_over, half, wider}

-- `place_from`, `place`: which of 64 columns a coordinate lies in, 32 NM each. What lies outside counts to the first or the last.
abbrev pub place_from : ℤ → ℕ
place_from (pos n) = min (n / 115200) 63
place_from (negsuc n) = 0

abbrev pub place : ℤ → ℕ
place z = place_from (z +ℤ pos 3686400)

-- the columns that an extent touches, in order
abbrev pub cells_between : Extent → List ℕ
cells_between e = range_with_len (place e.low) (suc (place e.high) - place e.low)

-- `cells_in`, `cells`: the cells of one line of 64, and of all lines
abbrev pub cells_in : Extent → ℕ → List ℕ
cells_in e line = map (λ column. 64 * line + column) (cells_between e)

abbrev pub cells : Extent → Extent → List ℕ
cells x y = flat_map (cells_in x) (cells_between y)

-- the cells of a box, widened by its margin and half the minimum
abbrev pub cells_of : Rules → BoundingBox → List ℕ
cells_of rules a = cells (wider a.x (a.margin +ℤ half rules)) (wider a.y (a.margin +ℤ half rules))

-- a stay in each of some cells, for the same seconds
abbrev pub stays_of : ℕ → ℕ → List ℕ → List Stay
stays_of from to list = map (λ cell. record { cell = cell; from = from; to = to }) list

-- the stays of a slice with these rows
abbrev pub stays_over : Rules → ℕ → List Row → List Stay
stays_over rules from [] = []
stays_over rules from (row ∷ rows) = stays_of from (from + length (row ∷ rows)) (cells_of rules (box_over (row ∷ rows) row))

-- `slice_rows`, `stays_in`: the rows of slice i, 256 seconds, and its stays
abbrev pub slice_rows : List Row → ℕ → List Row
slice_rows rows i = take 256 (drop (256 * i) rows)

abbrev pub stays_in : Rules → Trajectory → ℕ → List Stay
stays_in rules t i = stays_over rules (t.start + 256 * i) (slice_rows t.rows i)

-- the cover of a trajectory: the stays of all slices. The last slice may be shorter.
abbrev pub cover_of : Rules → Trajectory → List Stay
cover_of rules t = flat_map (stays_in rules t) (range_with_len 0 (div_ceil (length t.rows) 256))

-- a stay and some seconds have a second in common
pub record Overlap (stay : Stay) (from to : ℕ) : Type 0 where
  pub second : ℕ
  pub left : (stay.from ≤ second) × (second < stay.to)
  pub right : (from ≤ second) × (second < to)

-- one of the stays is in that cell in second k
pub record IsAt (stays : List Stay) (cell k : ℕ) : Type 0 where
  pub stay : Stay
  pub of : Contains stays stay
  pub there : stay.cell ≡ cell
  pub begun : stay.from ≤ k
  pub within : k < stay.to

-- two covers share a cell in second k
pub record ShareAt (a b : List Stay) (k : ℕ) : Type 0 where
  pub cell : ℕ
  pub left : IsAt a cell k
  pub right : IsAt b cell k

-- in a loss second the covers share a cell
abbrev pub MissesNone : Type 0
MissesNone = (rules : Rules) (a b : Trajectory) (k : ℕ) → AreWithinBounds rules → IsStrand a → IsStrand b → IsLossSecond rules a b k
    → ShareAt (cover_of rules a) (cover_of rules b) k
