-- Which trajectories pierce which restricted areas within the look-ahead.
use Rattle.std.specs.Prelude.{◌≡◌, ℕ, List, Contains, ◌↔◌}
use Rattle.std.specs.Cmp.Lexicographic.{slice_cmp}
use Rattle.std.specs.List.Sorted.{IsStrictlySortedBy}
use Rattle.std.specs.Ordering.{nat_cmp, ordering_then}
use Rattle.std.specs.declared.cmp.Ordering.{Ordering}
use Rattle.mt_base.specs.declared.area.Area.{Area}
use Rattle.mt_base.specs.declared.area.Pierced.{Pierced}
use Rattle.mt_base.specs.Area.{IsInsideSecond}
use Rattle.mt_base.specs.Picture.{NamedTrajectory, State, kind_cmp, trajectories, window_end}
use Rattle.mt_base.specs.Span.{IsSpanOf}
use Rattle.mt_base.specs.Tables.{Setup}

-- a trajectory is inside an area within the look-ahead, from first to last second
pub record IsPiercedBy (now : ℕ) (area : Area) (t : NamedTrajectory) (p : Pierced) : Type 0 where
  pub names : (p.area ≡ area.name) × (p.call ≡ t.call) × (p.kind ≡ t.kind)
  pub span : IsSpanOf (IsInsideSecond t.path area) now (window_end now) p.first p.last

-- one of these trajectories pierces one of these areas, in these seconds
pub record IsPiercedBySome (now : ℕ) (areas : List Area) (all : List NamedTrajectory) (p : Pierced) : Type 0 where
  pub area : Area
  pub of : NamedTrajectory
  pub area_in : Contains areas area
  pub of_in : Contains all of
  pub is : IsPiercedBy now area of p

-- the order of pierces: first second, callsign, kind, area. The last second comes last; where no two areas have one name and no two trajectories one
-- callsign and kind, it decides nothing.
abbrev pub pierced_cmp : Pierced → Pierced → Ordering
pierced_cmp p q = ordering_then (nat_cmp p.first q.first) (ordering_then (slice_cmp nat_cmp p.call q.call) (ordering_then (kind_cmp p.kind q.kind)
    (ordering_then (slice_cmp nat_cmp p.area q.area) (nat_cmp p.last q.last))))

-- exactly the pierces of these areas, each once, in order
pub record ArePiercedOf (now : ℕ) (areas : List Area) (all : List NamedTrajectory) (ps : List Pierced) : Type 0 where
  pub exact : (p : Pierced) → Contains ps p ↔ IsPiercedBySome now areas all p
  pub sorted : IsStrictlySortedBy pierced_cmp ps

-- the pierces of a state
abbrev pub ArePierced : Setup → State → List Area → List Pierced → Type 0
ArePierced setup s areas ps = ArePiercedOf s.now areas (trajectories setup s) ps
