-- What is found with a new trajectory.
use Rattle.std.specs.Prelude.{◌≡◌, ◌≢◌, ◌<◌, ℕ, true, List, AllPairs, Contains, is_some}
use Rattle.mt_base.specs.declared.rules.Rules.{Rules}
use Rattle.mt_base.specs.Conflict.{IsConflict, IsLossSecond}
use Rattle.mt_base.specs.Picture.{NamedTrajectory, State, trajectories, window_end}
use Rattle.mt_base.specs.Tables.{Setup}
use Rattle.mt_base.specs.Trajectory.{Trajectory}
use Rattle.mt_base.specs.Span.{IsSolid}
use Rattle.mt_probe.specs.declared.finding.Found.{Found}
use Rattle.mt_base.specs.Trajectory.{horizon}

-- another trajectory's conflict, over all seconds and the look-ahead. The former is solid where it is said to be so.
pub record IsFound (rules : Rules) (now : ℕ) (t : Trajectory) (other : NamedTrajectory) (found : Found) : Type 0 where
  pub call_is : found.call ≡ other.call
  pub kind_is : found.kind ≡ other.kind
  pub whole : IsConflict rules t other.path 0 horizon found.whole
  pub solid : found.solid ≡ true → IsSolid (IsLossSecond rules t other.path) found.whole
  pub window : IsConflict rules t other.path now (window_end now) found.window

-- a trajectory of another flight
pub record IsOfAnother (setup : Setup) (s : State) (call : List ℕ) (other : NamedTrajectory) : Type 0 where
  pub there : Contains (trajectories setup s) other
  pub apart : other.call ≢ call

-- a find of another flight, with a loss second
pub record IsFoundOfAnother (setup : Setup) (s : State) (call : List ℕ) (t : Trajectory) (found : Found) : Type 0 where
  pub other : NamedTrajectory
  pub of : IsOfAnother setup s call other
  pub is : IsFound setup.rules s.now t other found
  pub loss : is_some found.whole ≡ true

-- two finds differ in flight or kind
abbrev pub AreDifferentFinds : Found → Found → Type 0
AreDifferentFinds f g = ¬ ((f.call ≡ g.call) × (f.kind ≡ g.kind))

-- a trajectory's find is listed
pub record IsFindListed (rules : Rules) (now : ℕ) (t : Trajectory) (finds : List Found) (other : NamedTrajectory) : Type 0 where
  pub found : Found
  pub held : Contains finds found
  pub is : IsFound rules now t other found

-- exactly the other flights' trajectories with a loss second, each once, each find exact
pub record AreFinds (setup : Setup) (s : State) (call : List ℕ) (t : Trajectory) (finds : List Found) : Type 0 where
  pub exact : (found : Found) → Contains finds found → IsFoundOfAnother setup s call t found
  pub complete : (other : NamedTrajectory) → IsOfAnother setup s call other → (k : ℕ) → k < horizon → IsLossSecond setup.rules t other.path k
      → IsFindListed setup.rules s.now t finds other
  pub once : AllPairs AreDifferentFinds finds

-- no two have one callsign and one kind
abbrev pub AreOneEach : List NamedTrajectory → Type 0
AreOneEach all = (a b : NamedTrajectory) → Contains all a → Contains all b → a.call ≡ b.call → a.kind ≡ b.kind → a ≡ b
