-- What an entry does to the planned flight that it names.
use Rattle.std.specs.Prelude.{◌≡◌, ◌≤◌, ℕ, true, false, ◌||◌, Option, Some, None, unwrap_or, Ok, ⊤}
use Rattle.mt_base.specs.declared.clearance.Clearance.{Clearance}
use Rattle.mt_base.specs.declared.command.Command.{Command}
use Rattle.mt_base.specs.declared.command.Command.TheVariants.{Plan, External, Drop, Tick, Renew, Clear, Accept, Tentative, Withdraw, Commit}
use Rattle.mt_base.specs.declared.command.Command.TheVariants as commands
use Rattle.mt_base.specs.declared.flight.Course.{Course}
use Rattle.mt_base.specs.declared.flight.Path.{Path}
use Rattle.mt_base.specs.declared.flight.Path.TheVariants.{Planned, Outer}
use Rattle.mt_base.specs.declared.verdict.Verdict.{Verdict}
use Rattle.mt_base.specs.Bounds.{IsBoundedClearance, IsBoundedCommand, IsSoundCourse}
use Rattle.mt_base.specs.Checks.{judged}
use Rattle.mt_base.specs.Cleared.{clearance_checks}
use Rattle.mt_base.specs.Effect.{bare_path, cleared_path, committed, committed_path, marked_path, renewed_path, reported_path, verdict_on, with_aim}
use Rattle.mt_base.specs.Picture.{trajectory_of}
use Rattle.mt_base.specs.Tables.{Setup}
use Rattle.mt_base.specs.Verdict.{is_flagged}
use Rattle.mt_change.specs.declared.altering.Alteration.{Alteration}
use Rattle.mt_change.specs.declared.altering.Alteration.TheVariants.{Reported, Begun, Cleared, Marked, Bare, Committed}

-- `altered`, `altered_path`: a course, and a path, after an alteration
abbrev pub altered : Alteration → Course → Course
altered (Reported report verdict) course = record course { last = Some report; due = course.due || is_flagged verdict }
altered (Begun base) course = record course { base = base; due = false }
altered (Cleared aim) course = with_aim course aim
altered (Marked mark) course = record course { mark = Some mark }
altered Bare course = record course { mark = None }
altered Committed course = committed course course.mark

abbrev pub altered_path : Alteration → Path → Path
altered_path a (Planned course) = Planned (altered a course)
altered_path a (Outer stretch) = Outer stretch

-- the verdict on an alteration's report
abbrev pub verdict_on_alteration : Alteration → Option Verdict
verdict_on_alteration (Reported report verdict) = Some verdict
verdict_on_alteration a = None

-- the named flight's path after a command
abbrev pub path_after : Setup → ℕ → Command → Path → Path
path_after setup who (commands.Report call report) = reported_path setup report
path_after setup who (Renew call) = renewed_path setup
path_after setup who (Clear call clearance eff) = cleared_path setup clearance (unwrap_or eff 0)
path_after setup who (Accept call clearance eff probed) = cleared_path setup clearance eff
path_after setup who (Tentative call clearance eff) = marked_path setup who clearance (unwrap_or eff 0)
path_after setup who (Withdraw call force) = bare_path
path_after setup who (Commit call) = committed_path
path_after setup who command = λ path. path

-- the verdict on a report of a course. No other command has one.
abbrev pub verdict_for : Setup → Course → Command → Option Verdict
verdict_for setup course (commands.Report call report) = Some (verdict_on setup course report)
verdict_for setup course command = None

-- an alteration is what a command makes of a course. It leaves it sound.
pub record IsAlterationBy (setup : Setup) (who : ℕ) (command : Command) (course : Course) (a : Alteration) : Type 0 where
  pub path : altered_path a (Planned course) ≡ path_after setup who command (Planned course)
  pub sound : IsSoundCourse setup (altered a course)
  pub verdict : verdict_on_alteration a ≡ verdict_for setup course command

-- a command that changes a planned flight
abbrev pub Alters : Command → Type 0
Alters (Plan call kind route at from level rvsm) = ⊥
Alters (External call straight) = ⊥
Alters (Drop call) = ⊥
Alters (Tick next) = ⊥
Alters command = ⊤

-- no check of a clearance of a course fails
abbrev pub IsFreeToFly : Setup → ℕ → Course → Clearance → ℕ → Type 0
IsFreeToFly setup now course clearance eff =
    judged (clearance_checks setup.tables course (trajectory_of setup (Planned course)) clearance eff now) (tt {0}) ≡ Ok (tt {0})

-- a command that changes a planned flight, its checks passed. Those that the change needs.
abbrev pub CanAlter : Setup → ℕ → Course → Command → Type 0
CanAlter setup now course (Plan call kind route at from level rvsm) = ⊥
CanAlter setup now course (External call straight) = ⊥
CanAlter setup now course (Drop call) = ⊥
CanAlter setup now course (Tick next) = ⊥
CanAlter setup now course (Renew call) = course.due ≡ true
CanAlter setup now course (Clear call clearance eff) = IsFreeToFly setup now course clearance (unwrap_or eff 0)
CanAlter setup now course (Accept call clearance eff probed) = IsFreeToFly setup now course clearance eff
CanAlter setup now course (Tentative call clearance eff) = IsFreeToFly setup now course clearance (unwrap_or eff 0)
CanAlter setup now course command = ⊤

-- a command's numbers are bounded, its probe's version aside
abbrev pub IsBoundedBesides : Command → Type 0
IsBoundedBesides (Accept call clearance eff probed) = IsBoundedClearance clearance × (eff ≤ 10000000)
IsBoundedBesides command = IsBoundedCommand command
