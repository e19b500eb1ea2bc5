-- What dropping the pairs of changed places costs.
use Rattle.std.specs.Prelude.{ℕ, ◌+◌, ◌*◌, ◌≤◌, List, length, All, Option}
use Rattle.mt_base.specs.declared.rules.Rules.{Rules}
use Rattle.mt_base.specs.Picture.{NamedTrajectory}
use Rattle.mt_edges.specs.declared.edge.Edge.{Edge}
use Rattle.mt_edges.specs.Pairs.{AreDistinctPairs}
use Rattle.mt_kept.specs.Losing.{IsPair, TouchesOne}

-- at most six steps per pair of the changed places, and one per change
pub record WereStepsOf (rules : Rules) (places : List (Option NamedTrajectory)) (changed : List ℕ) (old new : ℕ) : Type 0 where
  pub edges : List Edge
  pub distinct : AreDistinctPairs edges
  pub each : All (λ e. IsPair rules places e × TouchesOne changed e) edges
  pub within : new ≤ old + 6 * length edges + length changed
