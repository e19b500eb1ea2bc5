use Rattle.std.specs.Prelude.{◌≡◌, ℕ, zero, suc, ◌+◌, ◌-◌, ◌<◌, ◌≤◌, List, [], ◌∷◌, ◌++◌, length, slice_get, get_or, All, Some, IfSome, ⊤}
use Rattle.std.specs.List.{flat_map, AllAdjacentBelow}
use Rattle.mt_base.specs.declared.row.Row.{Row}
use Rattle.mt_base.specs.Bounds.{IsBoundedOver, IsBoundedRow}
use Rattle.mt_base.specs.Trajectory.{Trajectory, row_at, straight_rows}
use Rattle.mt_track.specs.declared.segment.Segment.{Segment}
use Rattle.mt_track.specs.Rows.{Continues, row_after}

-- the rows of a segment
abbrev pub rows_of : Segment → List Row
rows_of s = straight_rows s.first (s.to - s.from)

-- the rows of segments, one after another
abbrev pub all_rows : List Segment → List Row
all_rows segments = flat_map rows_of segments

-- segments lie end to end between two seconds. Each begins where the one before it ends, and has at least one second.
abbrev pub Adjoin : ℕ → List Segment → ℕ → Type 0
Adjoin from [] to = from ≡ to
Adjoin from (s ∷ ss) to = (s.from ≡ from) × (s.from < s.to) × Adjoin s.to ss to

-- bounded rows, each continued by the next, at most 14,400. They end by second 10,014,400.
pub record AreStrandRows (start : ℕ) (rows : List Row) : Type 0 where
  pub bounded : All IsBoundedRow rows
  pub continuous : AllAdjacentBelow Continues rows (length rows)
  pub short : length rows ≤ 14400
  pub early : start + length rows ≤ 10014400

-- a trajectory of bounded rows that continue one another, as every strand is. At most 14,400 rows, ending by second 10,014,400.
abbrev pub IsStrand : Trajectory → Type 0
IsStrand t = AreStrandRows t.start t.rows

-- no segment goes on from the one before. The gains or the leg are others, or w does not continue.
abbrev pub AreSeparateSegments : List Segment → Type 0
AreSeparateSegments [] = ⊤
AreSeparateSegments (s ∷ []) = ⊤
AreSeparateSegments (s ∷ t ∷ ts) = ¬ (t.first ≡ row_after s.first (s.to - s.from)) × AreSeparateSegments (t ∷ ts)

-- the segments of a trajectory, its only such list
pub record AreSegmentsOf (t : Trajectory) (segments : List Segment) : Type 0 where
  pub adjoin : Adjoin t.start segments (t.start + length t.rows)
  pub rows : all_rows segments ≡ t.rows
  pub apart : AreSeparateSegments segments

-- segment i covers a range of seconds
pub record Covers (t : Trajectory) (i from to : ℕ) : Type 0 where
  pub segments : List Segment
  pub segment : Segment
  pub are : AreSegmentsOf t segments
  pub place : i < length segments
  pub is : segment ≡ get_or segments i segment
  pub begun : segment.from ≤ from
  pub ahead : to ≤ segment.to

-- a segment can follow a strand: it begins at the strand's end and continues its last row. It keeps what every strand keeps.
pub record Follows (t : Trajectory) (s : Segment) : Type 0 where
  pub adjoins : s.from ≡ t.start + length t.rows
  pub some : s.from < s.to
  pub continues : IfSome (slice_get t.rows (length t.rows - 1)) (λ last. Continues last s.first)
  pub bounded : IsBoundedOver s.first (s.to - s.from)
  pub short : s.to ≤ t.start + 14400
  pub early : s.to ≤ 10014400

-- a trajectory with a segment's rows appended
abbrev pub extended : Trajectory → Segment → Trajectory
extended t s = record t { rows = t.rows ++ rows_of s }

-- the second at which segment i begins, or the last one ends
abbrev pub edge : ℕ → List Segment → ℕ → ℕ
edge from ss zero = from
edge from [] (suc i) = from
edge from (s ∷ ss) (suc i) = edge s.to ss i

-- a strand's segments lie from its start to its end, and no two neighbours are in one
pub record IsLaid (start end : ℕ) (segments : List Segment) : Type 0 where
  pub adjoin : Adjoin start segments end
  pub apart : AreSeparateSegments segments
  pub kept : AreStrandRows start (all_rows segments)

-- a segment holds second k of a trajectory. The row of k is that many seconds after the segment's first row, and within bounds until then.
pub record CoversSecond (t : Trajectory) (k : ℕ) (s : Segment) : Type 0 where
  pub begun : s.from ≤ k
  pub row : row_at t k ≡ Some (row_after s.first (k - s.from))
  pub kept : IsBoundedOver s.first (k - s.from)
  pub bounded : IsBoundedRow (row_after s.first (k - s.from))
