-- No public contract names these: they are of private steps and of proofs.
-- What one step of the search for hits answers.
use Rattle.std.specs.Prelude.{◌≡◌, ℕ}
use Rattle.mt_base.specs.declared.flight.Record.{Record}
use Rattle.mt_base.specs.declared.hit.Hit.{Hit}
use Rattle.mt_base.specs.Conflict.{IsSpanOfLoss}
use Rattle.mt_base.specs.Picture.{trajectory_of, window_end}
use Rattle.mt_base.specs.Tables.{Setup}
use Rattle.mt_base.specs.Trajectory.{Trajectory}

-- within the look-ahead the trajectory has this conflict with the one that this flight flies
pub record IsHitWith (setup : Setup) (now : ℕ) (t : Trajectory) (flight : Record) (hit : Hit) : Type 0 where
  pub with_is : hit.with ≡ flight.call
  pub span : IsSpanOfLoss setup.rules t (trajectory_of setup flight.path) now (window_end now) hit.first hit.last
