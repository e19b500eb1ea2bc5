-- No public contract names these: they are of private steps and of proofs.
use Rattle.std.specs.Prelude.{ℕ, ◌-◌, ◌≤◌, List}
use Rattle.mt_base.specs.Bounds.{IsBoundedOver, IsBoundedRow}
use Rattle.mt_base.specs.Trajectory.{Trajectory}
use Rattle.mt_track.specs.declared.segment.Segment.{Segment}
use Rattle.mt_track.specs.Laid.{AreSegmentsOf, edge}
use Rattle.mt_track.specs.Rows.{row_after}

-- segment i of a trajectory begins by second k
abbrev pub BeginsBy : Trajectory → ℕ → ℕ → Type 0
BeginsBy t i k = (segments : List Segment) → AreSegmentsOf t segments → edge t.start segments i ≤ k

-- a segment has begun by second k, and its row is within bounds from its first second to that one
pub record StandsAt (s : Segment) (k : ℕ) : Type 0 where
  pub begun : s.from ≤ k
  pub kept : IsBoundedOver s.first (k - s.from)
  pub bounded : IsBoundedRow (row_after s.first (k - s.from))
