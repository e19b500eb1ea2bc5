use Rattle.std.specs.Prelude.{◌≡◌, ◌≤◌, ◌∷◌, ◌++◌, [], ℕ, List, Bool, true, not, nat_le, length, Some, IfSome, is_some, unwrap_or, ⊤}
use Rattle.std.specs.Option.{option_copied, option_map_or}
use Rattle.mt_base.specs.declared.clearance.Clearance.{Clearance}
use Rattle.mt_base.specs.declared.command.Command.{Command}
use Rattle.mt_base.specs.declared.command.Command.TheVariants.{Clear, Accept, Tentative}
use Rattle.mt_base.specs.declared.command.Refusal.{Refusal}
use Rattle.mt_base.specs.declared.command.Refusal.TheVariants.{Fixed, Future, HistoryFull, TentativeHeld, UnknownCall}
use Rattle.mt_base.specs.declared.flight.Course.{Course}
use Rattle.mt_base.specs.declared.flight.Path.TheVariants.{Planned}
use Rattle.mt_base.specs.Cleared.{aim_checks, clearance_checks}
use Rattle.mt_base.specs.Decision.{Look, checks, has_history, owner_of}
use Rattle.mt_base.specs.Picture.{trajectory_of}
use Rattle.mt_base.specs.Tables.{Setup, Tables}
use Rattle.mt_base.specs.Trajectory.{Trajectory}
use Rattle.mt_base.specs.WhatIf.{course_in, mark_in}
use Rattle.mt_predict.specs.declared.judging.Looked.{Looked}

-- what a decision looks at, as the definition says
abbrev pub look_of : Looked → Look
look_of looked = record { now = looked.now; held = looked.held; entries = looked.entries; flight = option_copied looked.flight }

-- the trajectory at hand, or an empty one
abbrev pub strand_in : Looked → Trajectory
strand_in looked = unwrap_or (option_copied looked.strand) (record { start = 0; rows = []; rvsm = true })

-- the checks of a clearance, along a given trajectory
abbrev pub cleared_checks : Tables → Trajectory → Look → List ℕ → Clearance → ℕ → List (Refusal × Bool)
cleared_checks tables t look call clearance eff =
    (UnknownCall call, is_some look.flight) ∷
    (Fixed, is_some (course_in look.flight)) ∷
    option_map_or (λ course. clearance_checks tables course t clearance eff look.now) (course_in look.flight) []

-- the checks of a command, along a given trajectory
abbrev pub checks_along : Setup → Trajectory → Look → ℕ → Command → List (Refusal × Bool)
checks_along setup t look who (Clear call clearance eff) =
    cleared_checks setup.tables t look call clearance (unwrap_or eff look.now) ++ (HistoryFull, has_history setup.rules look) ∷ []
checks_along setup t look who (Accept call clearance eff probed) =
    cleared_checks setup.tables t look call clearance eff ++ (HistoryFull, has_history setup.rules look) ∷ []
checks_along setup t look who (Tentative call clearance eff) =
    (UnknownCall call, is_some look.flight) ∷
    (Fixed, is_some (course_in look.flight)) ∷
    (option_map_or (λ course. aim_checks setup.tables course t clearance (unwrap_or eff look.now)) (course_in look.flight) [] ++
    (TentativeHeld (owner_of (mark_in look.flight)), not (is_some (mark_in look.flight))) ∷
    (Future, nat_le (unwrap_or eff look.now) look.now) ∷
    (HistoryFull, has_history setup.rules look) ∷ [])
checks_along setup t look who command = checks setup look who command

-- `HasSomeStrandOf`, `HasSomeStrandOfPlanned`: a trajectory is at hand for a course of at most 64 fixes
pub record HasSomeStrandOf (looked : Looked) (course : Course) : Type 0 where
  pub strand : is_some looked.strand ≡ true
  pub short : length course.route ≤ 64

abbrev pub HasSomeStrandOfPlanned : Looked → Type 0
HasSomeStrandOfPlanned looked = IfSome (course_in (option_copied looked.flight)) (HasSomeStrandOf looked)

-- for a clearance, the planned flight's trajectory is at hand
abbrev pub HasSomeStrand : Looked → Command → Type 0
HasSomeStrand looked (Clear call clearance eff) = HasSomeStrandOfPlanned looked
HasSomeStrand looked (Accept call clearance eff probed) = HasSomeStrandOfPlanned looked
HasSomeStrand looked (Tentative call clearance eff) = HasSomeStrandOfPlanned looked
HasSomeStrand looked command = ⊤

-- the trajectory that a course flies is at hand, along a route of at most 64 names
pub record HasStrandOf (setup : Setup) (looked : Looked) (course : Course) : Type 0 where
  pub strand : option_copied looked.strand ≡ Some (trajectory_of setup (Planned course))
  pub short : length course.route ≤ 64

-- the trajectory of the flight that the command names is at hand, where it is planned
abbrev pub HasStrandOfPlanned : Setup → Looked → Type 0
HasStrandOfPlanned setup looked = IfSome (course_in (option_copied looked.flight)) (HasStrandOf setup looked)

-- for a clearance, the trajectory that the planned flight flies is at hand
abbrev pub HasStrand : Setup → Looked → Command → Type 0
HasStrand setup looked (Clear call clearance eff) = HasStrandOfPlanned setup looked
HasStrand setup looked (Accept call clearance eff probed) = HasStrandOfPlanned setup looked
HasStrand setup looked (Tentative call clearance eff) = HasStrandOfPlanned setup looked
HasStrand setup looked command = ⊤
