-- No public contract names these: they are of private steps and of proofs.
use Rattle.std.specs.Prelude.{◌≡◌, ◌<◌, ◌⊎◌, ℕ, true, List, AllPairs, Contains, is_some}
use Rattle.mt_base.specs.declared.rules.Rules.{Rules}
use Rattle.mt_base.specs.Conflict.{IsLossSecond}
use Rattle.mt_base.specs.Picture.{NamedTrajectory}
use Rattle.mt_base.specs.Trajectory.{Trajectory}
use Rattle.mt_probe.specs.declared.finding.Found.{Found}
use Rattle.mt_base.specs.Trajectory.{horizon}
use Rattle.mt_probe.specs.Finds.{AreDifferentFinds, IsFindListed, IsFound}

-- two trajectories differ in callsign or kind
abbrev pub AreCalledApart : NamedTrajectory → NamedTrajectory → Type 0
AreCalledApart a b = ¬ ((a.call ≡ b.call) × (a.kind ≡ b.kind))

-- the find of one of these trajectories, which has a loss second with the new one
pub record IsFoundAmong (rules : Rules) (now : ℕ) (t : Trajectory) (others : List NamedTrajectory) (found : Found) : Type 0 where
  pub other : NamedTrajectory
  pub among : Contains others other
  pub is : IsFound rules now t other found
  pub loss : is_some found.whole ≡ true

-- no find is of the flight and kind of one of these trajectories
abbrev pub AreOfNone : List NamedTrajectory → List Found → Type 0
AreOfNone others finds = (found : Found) (other : NamedTrajectory) → Contains finds found → Contains others other
    → ¬ ((found.call ≡ other.call) × (found.kind ≡ other.kind))

-- some finds have more than others: those of these trajectories with a loss second, each once
pub record FindsMore (rules : Rules) (now : ℕ) (t : Trajectory) (others : List NamedTrajectory) (old new : List Found) : Type 0 where
  pub kept : (found : Found) → Contains old found → Contains new found
  pub exact : (found : Found) → Contains new found → Contains old found ⊎ IsFoundAmong rules now t others found
  pub listed : (other : NamedTrajectory) → Contains others other → (k : ℕ) → k < horizon → IsLossSecond rules t other.path k
      → IsFindListed rules now t new other
  pub once : AllPairs AreCalledApart others → AreOfNone others old → AllPairs AreDifferentFinds old → AllPairs AreDifferentFinds new
