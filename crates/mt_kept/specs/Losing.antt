-- The pairs of places that lose separation, over all seconds.
use Rattle.std.specs.Prelude.{◌≡◌, ◌≢◌, ℕ, true, ◌<◌, ◌⊎◌, List, Contains, Option, Some}
use Rattle.mt_base.specs.declared.rules.Rules.{Rules}
use Rattle.mt_base.specs.Conflict.{IsLossSecond, IsSpanOfLoss}
use Rattle.mt_base.specs.Picture.{NamedTrajectory}
use Rattle.mt_base.specs.Span.{IsSolid}
use Rattle.mt_edges.specs.declared.edge.Edge.{Edge}
use Rattle.mt_kept.specs.Places.{at}
use Rattle.mt_base.specs.Trajectory.{Trajectory, horizon}

-- trajectories of different flights lose separation in second k
pub record LoseSeparation (rules : Rules) (places : List (Option NamedTrajectory)) (a b k : ℕ) : Type 0 where
  pub left : NamedTrajectory
  pub right : NamedTrajectory
  pub left_is : at places a ≡ Some left
  pub right_is : at places b ≡ Some right
  pub apart : left.call ≢ right.call
  pub loss : IsLossSecond rules left.path right.path k
  pub early : k < horizon

-- a pair says only of a conflict that is solid that it is so
abbrev pub IsSolidAsSaid : Rules → Trajectory → Trajectory → Edge → Type 0
IsSolidAsSaid rules a b e = e.solid ≡ true → IsSolid (IsLossSecond rules a b) (Some (e.first, e.last))

-- two places of different flights, and their conflict. The lesser place stands first; the conflict is over all seconds.
pub record IsPair (rules : Rules) (places : List (Option NamedTrajectory)) (e : Edge) : Type 0 where
  pub left : NamedTrajectory
  pub right : NamedTrajectory
  pub left_is : at places e.a ≡ Some left
  pub right_is : at places e.b ≡ Some right
  pub before : e.a < e.b
  pub apart : left.call ≢ right.call
  pub span : IsSpanOfLoss rules left.path right.path 0 horizon e.first e.last
  pub solid : IsSolidAsSaid rules left.path right.path e

-- some listed pair has these two ends
pub record Joins (edges : List Edge) (a b : ℕ) : Type 0 where
  pub edge : Edge
  pub held : Contains edges edge
  pub ends : (edge.a ≡ a) × (edge.b ≡ b)

-- one end of a pair is that place
abbrev pub Touches : ℕ → Edge → Type 0
Touches place e = (e.a ≡ place) ⊎ (e.b ≡ place)

-- one end of a pair is among some places
abbrev pub TouchesOne : List ℕ → Edge → Type 0
TouchesOne some e = Contains some e.a ⊎ Contains some e.b
