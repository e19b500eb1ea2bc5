-- No public contract names these: they are of private steps and of proofs.
-- The trajectories that are kept of the flight at a place.
use Rattle.std.specs.Prelude.{ℕ, List, [], Option, option_and_then}
use Rattle.std.specs.Option.{option_map_or}
use Rattle.mt_base.specs.declared.conflict.Kind.{Kind}
use Rattle.mt_base.specs.Picture.{NamedTrajectory}
use Rattle.mt_base.specs.Trajectory.{Trajectory}
use Rattle.mt_probe.specs.Items.{path_of}
use Rattle.mt_probe.specs.Shot.{Shot, flight_at, kept_of}

-- the trajectory of a kind at a place, where there is one
abbrev pub path_at : Shot → ℕ → Kind → Option Trajectory
path_at shot place kind = option_and_then (path_of kind) (flight_at shot place)

-- all trajectories kept at a place
abbrev pub kept_at : Shot → ℕ → List NamedTrajectory
kept_at shot place = option_map_or kept_of (flight_at shot place) []
