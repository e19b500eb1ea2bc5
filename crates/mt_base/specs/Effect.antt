-- What an entry leaves of a picture's state, and what it is answered.
use Rattle.std.specs.Prelude.{ℕ, ◌+◌, ◌*◌, pos, List, [], ◌∷◌, ◌++◌, map, fold, filter, Bool, not, ◌||◌, Option, Some, None, false, unwrap_or, option_map, if◌then◌else◌}
use Rattle.std.specs.Str.{bytes_eq}
use Rattle.mt_base.specs.declared.command.Command.{Command}
use Rattle.mt_base.specs.declared.command.Command.TheVariants.{Plan, External, Drop, Tick, Renew, Clear, Accept, Tentative, Withdraw, Commit}
use Rattle.mt_base.specs.declared.command.Command.TheVariants as commands
use Rattle.mt_base.specs.declared.command.Entered.{Entered}
use Rattle.mt_base.specs.declared.command.Entry.{Entry}
use Rattle.mt_base.specs.declared.clearance.Aim.{Aim}
use Rattle.mt_base.specs.declared.clearance.Clearance.{Clearance}
use Rattle.mt_base.specs.declared.flight.Base.{Base}
use Rattle.mt_base.specs.declared.flight.Course.{Course}
use Rattle.mt_base.specs.declared.flight.Path.{Path}
use Rattle.mt_base.specs.declared.flight.Path.TheVariants.{Planned, Outer}
use Rattle.mt_base.specs.declared.flight.Mark.{Mark}
use Rattle.mt_base.specs.declared.flight.Record.{Record}
use Rattle.mt_base.specs.declared.flight.Report.{Report}
use Rattle.mt_base.specs.declared.place.Point.{Point}
use Rattle.mt_base.specs.declared.rules.Rules.{Rules}
use Rattle.mt_base.specs.declared.verdict.Verdict.{Verdict}
use Rattle.mt_base.specs.Cleared.{aim_of}
use Rattle.mt_base.specs.Picture.{State, flight_of, opening, trajectory_of}
use Rattle.mt_base.specs.Predictor.{points_of}
use Rattle.mt_base.specs.Renewed.{renewed}
use Rattle.mt_base.specs.Verdict.{is_flagged, verdict_of}
use Rattle.mt_base.specs.WhatIf.{course_in}
use Rattle.mt_base.specs.Tables.{Setup}

-- where a plan begins: its second, first fix, first level and the first margins. It flies to the next fix.
abbrev pub base_of : Rules → Point → ℕ → ℕ → Base
base_of rules fix at from = record { at = at; x = fix.x; y = fix.y; z = pos (6000 * from); r = rules.r0; w = rules.w0; next = 1 }

-- the first of some points
abbrev pub first_of_points : List Point → Point
first_of_points [] = record { x = pos 0; y = pos 0 }
first_of_points (p ∷ ps) = p

-- the course of a plan
abbrev pub course_of : Setup → List ℕ → List (List ℕ) → ℕ → ℕ → ℕ → Bool → Course
course_of setup kind route at from level rvsm = record {
  kind = kind;
  route = route;
  base = base_of setup.rules (first_of_points (points_of setup.tables route)) at from;
  level = level;
  last = None;
  due = false;
  mark = None;
  rvsm = rvsm;
}

-- `with_aim`, `cleared_path`: a course, and a path, after a clearance
abbrev pub with_aim : Course → Aim → Course
with_aim course aim = record course { base = aim.base; level = aim.level }

abbrev pub cleared_path : Setup → Clearance → ℕ → Path → Path
cleared_path setup clearance eff (Planned course) = Planned (with_aim course (aim_of course (trajectory_of setup (Planned course)) clearance eff))
cleared_path setup clearance eff (Outer stretch) = Outer stretch

-- the verdict on a report of a planned flight
abbrev pub verdict_on : Setup → Course → Report → Verdict
verdict_on setup course report = verdict_of setup.rules course.base (trajectory_of setup (Planned course)) report

-- a flight, with its path changed where the callsign matches
abbrev pub changed : List ℕ → (Path → Path) → Record → Record
changed call change flight = record flight { path = if bytes_eq flight.call call then change flight.path else flight.path }

-- a path after a report, due for renewal where the report has a flag. The report is the last one. One without a flag does not clear it.
abbrev pub reported_path : Setup → Report → Path → Path
reported_path setup report (Planned course) =
    Planned (record course { last = Some report; due = course.due || is_flagged (verdict_on setup course report) })
reported_path setup report (Outer stretch) = Outer stretch

-- a path after its renewal at the last report, no longer due
abbrev pub renewed_path : Setup → Path → Path
renewed_path setup (Planned course) =
    Planned (record course { base = unwrap_or (renewed setup.rules course (trajectory_of setup (Planned course))) course.base; due = false })
renewed_path setup (Outer stretch) = Outer stretch

-- a tentative clearance: its owner, base and level
abbrev pub mark_by : ℕ → Aim → Mark
mark_by who aim = record { owner = who; base = aim.base; level = aim.level }

-- `marked_path`, `bare_path`: a path with a tentative clearance, and without it
abbrev pub marked_path : Setup → ℕ → Clearance → ℕ → Path → Path
marked_path setup who clearance eff (Planned course) =
    Planned (record course { mark = Some (mark_by who (aim_of course (trajectory_of setup (Planned course)) clearance eff)) })
marked_path setup who clearance eff (Outer stretch) = Outer stretch

abbrev pub bare_path : Path → Path
bare_path (Planned course) = Planned (record course { mark = None })
bare_path (Outer stretch) = Outer stretch

-- `committed`, `committed_path`: a course, and a path, after a tentative clearance's commitment
abbrev pub committed : Course → Option Mark → Course
committed course None = course
committed course (Some mark) = record course { base = mark.base; level = mark.level; mark = None }

abbrev pub committed_path : Path → Path
committed_path (Planned course) = Planned (committed course course.mark)
committed_path (Outer stretch) = Outer stretch

-- `records_after`, `now_after`: the flights and the moment after an entry
abbrev pub records_after : Setup → ℕ → Command → List Record → List Record
records_after setup who (Plan call kind route at from level rvsm) flights =
    flights ++ (record { call = call; path = Planned (course_of setup kind route at from level rvsm) }) ∷ []
records_after setup who (External call straight) flights = flights ++ (record { call = call; path = Outer straight }) ∷ []
records_after setup who (Drop call) flights = filter (λ flight. not (bytes_eq flight.call call)) flights
records_after setup who (commands.Report call report) flights = map (changed call (reported_path setup report)) flights
records_after setup who (Tick now) flights = flights
records_after setup who (Renew call) flights = map (changed call (renewed_path setup)) flights
records_after setup who (Clear call clearance eff) flights = map (changed call (cleared_path setup clearance (unwrap_or eff 0))) flights
records_after setup who (Accept call clearance eff probed) flights = map (changed call (cleared_path setup clearance eff)) flights
records_after setup who (Tentative call clearance eff) flights = map (changed call (marked_path setup who clearance (unwrap_or eff 0))) flights
records_after setup who (Withdraw call force) flights = map (changed call bare_path) flights
records_after setup who (Commit call) flights = map (changed call committed_path) flights

abbrev pub now_after : Command → ℕ → ℕ
now_after (Tick next) now = next
now_after command now = now

-- the state after an entry; the version rises by one. A plan or an external flight is filed after the others, a dropped one is taken out, a tick
-- moves the moment, and any other command changes the path of the flight that it names.
abbrev pub effect : Setup → State → Entry → State
effect setup s e = record { now = now_after e.command s.now; records = records_after setup e.who e.command s.records; version = s.version + 1 }

-- an entered report's verdict in the state before it. No other command has one.
abbrev pub verdict_in : Setup → State → Command → Option Verdict
verdict_in setup s (commands.Report call report) = option_map (λ course. verdict_on setup course report) (course_in (flight_of s.records call))
verdict_in setup s command = None

-- the answer to an entry: its version, and a report's verdict
abbrev pub entered_by : Setup → State → Entry → Entered
entered_by setup s e = record { version = s.version + 1; verdict = verdict_in setup s e.command }

-- the state of a history: its entries' effects in order
abbrev pub state_of : Setup → List Entry → State
state_of setup h = fold (effect setup) opening h
