-- Trajectories of other flights.
use Rattle.std.specs.Prelude.{◌≢◌, ℕ, List, All}
use Rattle.mt_base.specs.Picture.{NamedTrajectory}

-- trajectories of flights of other callsigns
abbrev pub AreOfOthers : List ℕ → List NamedTrajectory → Type 0
AreOfOthers call all = All (λ t. t.call ≢ call) all
