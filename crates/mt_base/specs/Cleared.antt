-- What a clearance changes of a planned flight.
use Rattle.std.specs.Prelude.{ℕ, ◌+◌, suc, Bool, List, [], ◌∷◌, ◌++◌, drop, position, nat_le, nat_lt, Option, Some, is_some, unwrap_or, option_and_then, option_map, Result, if◌then◌else◌}
use Rattle.std.specs.Str.{bytes_eq}
use Rattle.mt_base.specs.declared.clearance.Aim.{Aim}
use Rattle.mt_base.specs.declared.clearance.Clearance.{Clearance}
use Rattle.mt_base.specs.declared.clearance.Clearance.TheVariants.{Level, Direct}
use Rattle.mt_base.specs.declared.command.Refusal.{Refusal}
use Rattle.mt_base.specs.declared.command.Refusal.TheVariants.{UnknownFix, Ended, NotAhead, Ceiling, Future}
use Rattle.mt_base.specs.declared.flight.Base.{Base}
use Rattle.mt_base.specs.declared.flight.Course.{Course}
use Rattle.mt_base.specs.declared.row.Row.{Row}
use Rattle.mt_base.specs.Checks.{judged}
use Rattle.mt_base.specs.Tables.{Tables, bands_of, ceiling_of, fix_of}
use Rattle.mt_base.specs.Trajectory.{Trajectory, row_at}

-- the base at a second, from the trajectory's row
abbrev pub base_by : ℕ → Row → Base
base_by at row = record { at = at; x = row.x; y = row.y; z = row.z; r = row.r; w = row.w; next = row.leg }

-- the base from which a clearance holds: the flight's own before it begins, then the row of that second. None at or past the trajectory's end.
abbrev pub base_from : Base → Trajectory → ℕ → Option Base
base_from base t eff = if nat_lt eff t.start then Some base else option_map (base_by eff) (row_at t eff)

-- the fix's first place further on in the route
abbrev pub place_further_on : List (List ℕ) → ℕ → List ℕ → Option ℕ
place_further_on route place fix = option_map (λ i. suc place + i) (position (bytes_eq fix) (drop (suc place) route))

-- a level is at or below the type's ceiling
abbrev pub is_below_ceiling : Tables → List ℕ → ℕ → Bool
is_below_ceiling tables kind level = nat_le level (ceiling_of (unwrap_or (bands_of tables kind) []))

-- a fix lies ahead on the route
abbrev pub is_ahead : Course → Trajectory → ℕ → List ℕ → Bool
is_ahead course t eff fix = is_some (option_and_then (λ (base : Base). place_further_on course.route base.next fix) (base_from course.base t eff))

-- what is checked of a clearance from second `eff` on: its base, the ceiling, its fix
abbrev pub aim_checks : Tables → Course → Trajectory → Clearance → ℕ → List (Refusal × Bool)
aim_checks tables course t (Level level) eff =
    (Ended, is_some (base_from course.base t eff)) ∷ (Ceiling, is_below_ceiling tables course.kind level) ∷ []
aim_checks tables course t (Direct fix) eff =
    (UnknownFix fix, is_some (fix_of tables fix)) ∷ (Ended, is_some (base_from course.base t eff)) ∷ (NotAhead, is_ahead course t eff fix) ∷ []

-- the same, and last that `eff` isn't ahead of the moment
abbrev pub clearance_checks : Tables → Course → Trajectory → Clearance → ℕ → ℕ → List (Refusal × Bool)
clearance_checks tables course t clearance eff now = aim_checks tables course t clearance eff ++ (Future, nat_le eff now) ∷ []

-- a base that flies to that fix next
abbrev pub direct_to : List (List ℕ) → List ℕ → Base → Base
direct_to route fix base = record base { next = unwrap_or (place_further_on route base.next fix) base.next }

-- the base and level that a clearance leaves: a new level, or a new next fix
abbrev pub aim_of : Course → Trajectory → Clearance → ℕ → Aim
aim_of course t (Level level) eff = record { base = unwrap_or (base_from course.base t eff) course.base; level = level }
aim_of course t (Direct fix) eff =
    record { base = direct_to course.route fix (unwrap_or (base_from course.base t eff) course.base); level = course.level }

-- what a clearance leaves of a course, or its first refusal
abbrev pub cleared : Tables → Course → Trajectory → Clearance → ℕ → ℕ → Result Aim Refusal
cleared tables course t clearance eff now = judged (clearance_checks tables course t clearance eff now) (aim_of course t clearance eff)
