-- The slices of a trajectory: where it is, and in which heights, in each 128 of its seconds from its start, the last of which may be fewer. Two of them
-- make a slice of its cover.
use Rattle.std.specs.Prelude.{◌≡◌, ◌≤◌, ◌<◌, ℕ, Bool, ◌+◌, ◌-◌, ◌*◌, ◌/◌, pos, ◌+ℤ◌, ◌≤ℤ◌, List, [], ◌∷◌, All, length, get_or, map, take, drop}
use Rattle.std.specs.Int.{div_ceil}
use Rattle.std.specs.List.{range_with_len}
use Rattle.mt_base.specs.declared.row.Row.{Row}
use Rattle.mt_base.specs.declared.rules.Rules.{Rules}
use Rattle.mt_base.specs.Bounds.{AreWithinBounds}
use Rattle.mt_base.specs.Trajectory.{Trajectory}
use Rattle.mt_track.specs.Laid.{IsStrand}
use Rattle.mt_cover.specs.Layer.{IsLayerKept}
use Rattle.mt_cover.specs.declared.bounding_box.BoundingBox.{BoundingBox}
use Rattle.mt_cover.specs.declared.bounding_box.Extent.{Extent}
use Rattle.mt_cover.specs.declared.sliced.Slice.{Slice}
use Rattle.mt_cover.specs.Box.{box_over, half, wider}
use Rattle.mt_cover.specs.Cells.{ShareAt, cover_of}

-- the slice of a box: positions widened, and heights. By its greatest margin and half of the horizontal minimum on each side.
abbrev pub slice_by : Rules → BoundingBox → Slice
slice_by rules a = record { x = wider a.x (a.margin +ℤ half rules); y = wider a.y (a.margin +ℤ half rules); layer = a.layer }

-- what stands for the slice of no row
abbrev pub no_slice : Slice
no_slice = record { x = record { low = pos 0; high = pos 0 }; y = record { low = pos 0; high = pos 0 }; layer = record { low = pos 0; high = pos 0 } }

-- the slice of some rows
abbrev pub slice_over : Rules → List Row → Slice
slice_over rules [] = no_slice
slice_over rules (row ∷ rows) = slice_by rules (box_over (row ∷ rows) row)

-- slice i of a trajectory
abbrev pub slice_in : Rules → Trajectory → ℕ → Slice
slice_in rules t i = slice_over rules (take 128 (drop (128 * i) t.rows))

-- slices of consecutive seconds, and RVSM approval. Together they have the seconds `from <= k < to`.
pub record Sliced : Type 0 where
  pub from : ℕ
  pub to : ℕ
  pub rvsm : Bool
  pub list : List Slice

-- the slices of a trajectory
abbrev pub slices_of : Rules → Trajectory → Sliced
slices_of rules t = record {
  from = t.start;
  to = t.start + length t.rows;
  rvsm = t.rvsm;
  list = map (slice_in rules t) (range_with_len 0 (div_ceil (length t.rows) 128));
}

-- the slice of second k
abbrev pub slice_at : Sliced → ℕ → Slice
slice_at s k = get_or s.list ((k - s.from) / 128) no_slice

-- the slices have second k
pub record Have (s : Sliced) (k : ℕ) : Type 0 where
  pub begun : s.from ≤ k
  pub within : k < s.to

-- slices of the same trajectory, with all of its seconds before one, and maybe more
pub record AreFrontUntil (s : Sliced) (to : ℕ) (front : Sliced) : Type 0 where
  pub rvsm_is : front.rvsm ≡ s.rvsm
  pub whole : (k : ℕ) → Have s k → k < to → Have front k
  pub same : (k : ℕ) → Have front k → Have s k × (slice_at front k ≡ slice_at s k)

-- two extents have a coordinate in common
pub record Touch (a b : Extent) : Type 0 where
  pub left : a.low ≤ℤ b.high
  pub right : b.low ≤ℤ a.high

-- two slices have a position in common
pub record TouchBoth (a b : Slice) : Type 0 where
  pub x : Touch a.x b.x
  pub y : Touch a.y b.y

-- an extent holds all of another
pub record Reaches (a b : Extent) : Type 0 where
  pub low : a.low ≤ℤ b.low
  pub high : b.high ≤ℤ a.high

-- a slice holds all of another
pub record Holds (a b : Slice) : Type 0 where
  pub x : Reaches a.x b.x
  pub y : Reaches a.y b.y
  pub low : a.layer.low ≤ℤ b.layer.low
  pub high : b.layer.high ≤ℤ a.layer.high

-- the slices have seconds of window w, which is 256 seconds of the clock
pub record HaveWindow (s : Sliced) (w : ℕ) : Type 0 where
  pub begun : s.from / 256 ≤ w
  pub within : w < div_ceil s.to 256
  pub some : s.from < s.to

-- a slice holds those of all seconds of a window
abbrev pub HoldsWindow : Sliced → ℕ → Slice → Type 0
HoldsWindow s w wide = (k : ℕ) → Have s k → k / 256 ≡ w → Holds wide (slice_at s k)

-- where slices touch in a second, covers share a cell
abbrev pub TouchingIsNear : Type 0
TouchingIsNear = (rules : Rules) (a b : Trajectory) (k : ℕ) → AreWithinBounds rules → IsStrand a → IsStrand b → Have (slices_of rules a) k
    → Have (slices_of rules b) k → TouchBoth (slice_at (slices_of rules a) k) (slice_at (slices_of rules b) k)
    → ShareAt (cover_of rules a) (cover_of rules b) k

-- what slices keep: one per 128 seconds, addable heights. They have at most 14,400 seconds, none after second 10,014,400.
pub record AreSlices (s : Sliced) : Type 0 where
  pub number : length s.list ≡ div_ceil (s.to - s.from) 128
  pub ordered : s.from ≤ s.to
  pub early : s.to ≤ 10014400
  pub short : s.to ≤ s.from + 14400
  pub each : All (λ (slice : Slice). IsLayerKept slice.layer) s.list
