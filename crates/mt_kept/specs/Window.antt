-- The pairs that are open in the look-ahead from a moment, and what they show in it.
use Rattle.std.specs.Prelude.{◌≡◌, ℕ, ◌<◌, ◌≤◌, ◌⊎◌, List, length, All, Option, Some, None, Bool, true}
use Rattle.mt_base.specs.declared.conflict.Conflict.{Conflict}
use Rattle.mt_base.specs.declared.rules.Rules.{Rules}
use Rattle.mt_base.specs.Conflict.{IsLossSecond}
use Rattle.mt_base.specs.Picture.{NamedTrajectory, IsConflictOf, window_end}
use Rattle.mt_pair.specs.Crossing.{crosses_one}
use Rattle.mt_edges.specs.declared.edge.Edge.{Edge}
use Rattle.mt_edges.specs.Pairs.{AreDistinctPairs}
use Rattle.mt_kept.specs.declared.open_pair.OpenPair.{OpenPair}
use Rattle.mt_kept.specs.Losing.{IsPair}
use Rattle.mt_kept.specs.Places.{at}
use Rattle.mt_base.specs.Tally.{raised_by}

-- a pair's conflict reaches into the look-ahead. It begins before the look-ahead's end and doesn't end before the moment.
abbrev pub IsOpen : ℕ → Edge → Type 0
IsOpen now e = (e.first < window_end now) × (now ≤ e.last)

-- a span straddles an edge of the look-ahead. It begins before the moment, or before the look-ahead's end, and goes on at it.
abbrev pub is_straddling : ℕ → ℕ → ℕ → Bool
is_straddling now first last = crosses_one now (window_end now) first last

-- a pair's conflict straddles such an edge
abbrev pub straddles : ℕ → Edge → Bool
straddles now e = is_straddling now e.first e.last

-- two trajectories' conflict in the look-ahead, or none. Either of them may have the lesser callsign.
abbrev pub IsFoundOf : Rules → ℕ → NamedTrajectory → NamedTrajectory → Option Conflict → Type 0
IsFoundOf rules now left right (Some c) = IsConflictOf rules now left right c ⊎ IsConflictOf rules now right left c
IsFoundOf rules now left right None = (k : ℕ) → now ≤ k → k < window_end now → ¬ IsLossSecond rules left.path right.path k

-- `ShowsInWindow`, `edge_of`: what a pair shows in the look-ahead
pub record ShowsInWindow (rules : Rules) (places : List (Option NamedTrajectory)) (now : ℕ) (e : Edge) (shown : Option Conflict) : Type 0 where
  pub left : NamedTrajectory
  pub right : NamedTrajectory
  pub left_is : at places e.a ≡ Some left
  pub right_is : at places e.b ≡ Some right
  pub found : IsFoundOf rules now left right shown

abbrev pub edge_of : OpenPair → Edge
edge_of o = o.edge

-- at most as many tests as there are straddling pairs. One that is known to be solid needs none.
pub record WasTestedOnce (rules : Rules) (places : List (Option NamedTrajectory)) (now old new : ℕ) : Type 0 where
  pub edges : List Edge
  pub distinct : AreDistinctPairs edges
  pub each : All (λ e. IsPair rules places e × (straddles now e ≡ true)) edges
  pub is : new ≡ raised_by (length edges) old
