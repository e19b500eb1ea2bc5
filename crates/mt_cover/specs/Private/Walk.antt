-- No public contract names these: they are of private steps and of proofs.
-- How a walk goes through the segments of a strand, slice by slice.
use Rattle.std.specs.Prelude.{◌≡◌, ℕ, suc, ◌+◌, ◌*◌, ◌<◌, ◌≤◌, min, List, Some, length, map, slice_get, take, drop}
use Rattle.std.specs.List.{range_with_len}
use Rattle.mt_base.specs.declared.row.Row.{Row}
use Rattle.mt_base.specs.declared.rules.Rules.{Rules}
use Rattle.mt_base.specs.Trajectory.{Trajectory}
use Rattle.mt_track.specs.declared.segment.Segment.{Segment}
use Rattle.mt_track.specs.Laid.{edge}
use Rattle.mt_cover.specs.declared.bounding_box.BoundingBox.{BoundingBox}
use Rattle.mt_cover.specs.Box.{box_over}
use Rattle.mt_cover.specs.Sliced.{Sliced, slice_in}

-- some elements from a place on
abbrev pub part : {X : Type 0} → List X → ℕ → ℕ → List X
part list place number = take number (drop place list)

-- the box of a part of some rows, which isn't empty
abbrev pub IsBoxOver : List Row → ℕ → ℕ → BoundingBox → Type 0
IsBoxOver rows place number bounds = (row : Row) → slice_get rows place ≡ Some row → bounds ≡ box_over (part rows place number) row

-- segment `index` is the one that holds second k; or k is the end, and it is after the last one
pub record StandsAtSecond (start : ℕ) (segments : List Segment) (index k : ℕ) : Type 0 where
  pub within : index ≤ length segments
  pub begun : edge start segments index ≤ k
  pub ahead : index < length segments → k < edge start segments (suc index)

-- the first slices of a trajectory. All of them end where it ends, fewer after so many times 128 seconds.
abbrev pub front_of : Rules → Trajectory → ℕ → Sliced
front_of rules t number = record {
  from = t.start;
  to = min (t.start + length t.rows) (t.start + 128 * number);
  rvsm = t.rvsm;
  list = map (slice_in rules t) (range_with_len 0 number);
}
