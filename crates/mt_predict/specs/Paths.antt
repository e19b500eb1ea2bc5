use Rattle.std.specs.Prelude.{◌≡◌, IfSome}
use Rattle.mt_base.specs.declared.conflict.Kind.{Kind}
use Rattle.mt_base.specs.declared.conflict.Kind.TheVariants.{Actual, Tentative}
use Rattle.mt_base.specs.declared.flight.Course.{Course}
use Rattle.mt_base.specs.declared.flight.Path.TheVariants.{Planned}
use Rattle.mt_base.specs.Picture.{trajectory_marked, trajectory_of}
use Rattle.mt_base.specs.Tables.{Setup}
use Rattle.mt_base.specs.Trajectory.{Trajectory}

-- a course's trajectory, or its tentative clearance's
abbrev pub IsPathOf : Setup → Course → Kind → Trajectory → Type 0
IsPathOf setup course Actual t = t ≡ trajectory_of setup (Planned course)
IsPathOf setup course Tentative t = IfSome course.mark (λ mark. t ≡ trajectory_marked setup course mark)
