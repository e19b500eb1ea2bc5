-- No public contract names these: they are of private steps and of proofs.
-- What a decision has at hand.
use Rattle.std.specs.Prelude.{◌≡◌, ◌≤◌, length, Option, Some, IfSome}
use Rattle.std.specs.Option.{option_copied}
use Rattle.mt_base.specs.declared.command.Command.{Command}
use Rattle.mt_base.specs.declared.flight.Path.TheVariants.{Planned}
use Rattle.mt_base.specs.declared.flight.Record.{Record}
use Rattle.mt_base.specs.Decision.{look_at}
use Rattle.mt_base.specs.Picture.{State, trajectory_of}
use Rattle.mt_base.specs.Tables.{Setup}
use Rattle.mt_base.specs.Trajectory.{Trajectory}
use Rattle.mt_base.specs.WhatIf.{course_in}
use Rattle.mt_predict.specs.declared.judging.Looked.{Looked}
use Rattle.mt_predict.specs.Looking.{HasStrand, look_of}

-- the trajectory of a flight that is there and planned, along a route of at most 64 names
abbrev pub IsPlannedStrand : Setup → Option Record → Option Trajectory → Type 0
IsPlannedStrand setup flight strand =
    IfSome (course_in flight) (λ course. (strand ≡ Some (trajectory_of setup (Planned course))) × (length course.route ≤ 64))

-- a decision that has this trajectory at hand has what it needs. Whatever else it looks at for that command in a state.
abbrev pub IsStrandFor : Setup → State → Command → Option Trajectory → Type 0
IsStrandFor setup s command strand =
    (looked : Looked) → look_of looked ≡ look_at s command → option_copied looked.strand ≡ strand → HasStrand setup looked command
