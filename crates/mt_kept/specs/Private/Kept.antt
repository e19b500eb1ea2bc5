-- No public contract names these: they are of private steps and of proofs.
use Rattle.std.specs.Prelude.{◌≡◌, ℕ, ◌<◌, ◌≤◌, ◌^◌, ◌↔◌, List, length, filter, Contains, Option}
use Rattle.mt_base.specs.declared.conflict.Conflict.{Conflict}
use Rattle.mt_base.specs.declared.rules.Rules.{Rules}
use Rattle.mt_base.specs.Bounds.{AreWithinBounds}
use Rattle.mt_base.specs.Picture.{NamedTrajectory}
use Rattle.mt_edges.specs.declared.edge.Edge.{Edge}
use Rattle.mt_kept.specs.declared.open_pair.OpenPair.{OpenPair}
use Rattle.mt_kept.specs.Private.Losing.{AreKept}
use Rattle.mt_kept.specs.Private.Made.{is_at_border}
use Rattle.mt_kept.specs.Places.{HaveOwnPlaces}
use Rattle.mt_kept.specs.Private.Window.{AreOpen, Shows}

-- the pairs of the places are kept, and what the open ones show is published. Of these only those at the border of the look-ahead are kept with what
-- they show. A flight's trajectories of one kind stand in one place.
pub record ArePairsKept (rules : Rules) (now : ℕ) (places : List (Option NamedTrajectory)) (edges : List Edge) (ends : ℕ)
    (bordering : List OpenPair) (published : List Conflict) : Type 0 where
  pub bounds : AreWithinBounds rules
  pub early : now ≤ 10000000
  pub few : length places < 2 ^ 32
  pub all : ends ≡ length places
  pub kept : AreKept rules places edges
  pub open_pairs : List OpenPair
  pub opened : AreOpen rules places now edges open_pairs
  pub borderers : bordering ≡ filter (is_at_border now) open_pairs
  pub exact : (c : Conflict) → Contains published c ↔ Shows open_pairs c
  pub own : HaveOwnPlaces places
