-- What a clearance of which no check fails leaves.
use Rattle.std.proofs.Common.{◌≡◌, ℕ, Ok, sym}
use Rattle.mt_base.specs.declared.clearance.Aim.{Aim}
use Rattle.mt_base.specs.declared.clearance.Clearance.{Clearance}
use Rattle.mt_base.specs.declared.flight.Course.{Course}
use Rattle.mt_base.specs.declared.flight.Path.TheVariants.{Planned}
use Rattle.mt_base.specs.Cleared.{aim_of, clearance_checks, cleared}
use Rattle.mt_base.specs.Picture.{trajectory_of}
use Rattle.mt_base.specs.Tables.{Setup}
use Rattle.mt_base.specs.Trajectory.{Trajectory}
use Rattle.mt_base.proofs.CheckLemmas.{answer_is}

-- what is left by one that isn't
pub aim_is : (setup : Setup) (now : ℕ) (course : Course) (clearance : Clearance) (eff : ℕ) (aim : Aim)
    → Ok aim ≡ cleared setup.tables course (trajectory_of setup (Planned course)) clearance eff now
    → aim ≡ aim_of course (trajectory_of setup (Planned course)) clearance eff
aim_is setup now course clearance eff aim exact =
    let t : Trajectory = trajectory_of setup (Planned course) in
    sym (answer_is (clearance_checks setup.tables course t clearance eff now) (aim_of course t clearance eff) aim (sym exact))
