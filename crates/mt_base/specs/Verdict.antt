-- How a report compares with the trajectory that was predicted.
use Rattle.std.specs.Prelude.{◌+◌, ℤ, pos, neg_ℤ, ◌+ℤ◌, ◌-ℤ◌, ◌*ℤ◌, Bool, true, false, int_lt, nat_le, ◌&&◌, ◌||◌, Option, Some, None, if◌then◌else◌}
use Rattle.std.specs.Ordering.{int_eq}
use Rattle.mt_base.specs.declared.flight.Base.{Base}
use Rattle.mt_base.specs.declared.flight.Report.{Report}
use Rattle.mt_base.specs.declared.row.Row.{Row}
use Rattle.mt_base.specs.declared.rules.Rules.{Rules}
use Rattle.mt_base.specs.declared.verdict.Verdict.{Verdict}
use Rattle.mt_base.specs.Trajectory.{Trajectory, row_at}

-- `off_x`, `off_y`, `off_z`: the distance from the row's position to the reported one
abbrev pub off_x : Row → Report → ℤ
off_x row report = report.x -ℤ row.x

abbrev pub off_y : Row → Report → ℤ
off_y row report = report.y -ℤ row.y

abbrev pub off_z : Row → Report → ℤ
off_z row report = report.z -ℤ row.z

-- `across`, `along`: the deviation across and along the row's velocity, times the speed. They are the cross and the dot product.
abbrev pub across : Row → Report → ℤ
across row report = off_x row report *ℤ row.vy -ℤ off_y row report *ℤ row.vx

abbrev pub along : Row → Report → ℤ
along row report = off_x row report *ℤ row.vx +ℤ off_y row report *ℤ row.vy

-- `speed_squared`, `distance_squared`: the squares of the speed and of the deviation
abbrev pub speed_squared : Row → ℤ
speed_squared row = row.vx *ℤ row.vx +ℤ row.vy *ℤ row.vy

abbrev pub distance_squared : Row → Report → ℤ
distance_squared row report = off_x row report *ℤ off_x row report +ℤ off_y row report *ℤ off_y row report

-- the row's position stays
abbrev pub is_still : Row → Bool
is_still row = int_eq row.vx (pos 0) && int_eq row.vy (pos 0)

-- `is_lateral`, `is_along`: beyond the tolerance across, and along, the velocity. Across counts in any direction where the row's position stays.
abbrev pub is_lateral : Rules → Row → Report → Bool
is_lateral rules row report =
    if is_still row then int_lt (rules.tc *ℤ rules.tc) (distance_squared row report)
    else int_lt (rules.tc *ℤ rules.tc *ℤ speed_squared row) (across row report *ℤ across row report)

abbrev pub is_along : Rules → Row → Report → Bool
is_along rules row report = int_lt (rules.ta *ℤ rules.ta *ℤ speed_squared row) (along row report *ℤ along row report)

-- beyond the tolerance above or below
abbrev pub is_vertical : Rules → Row → Report → Bool
is_vertical rules row report = int_lt rules.tv (off_z row report) || int_lt rules.tv (neg_ℤ (off_z row report))

-- 120 seconds or more after the base's second
abbrev pub is_aged : Base → Report → Bool
is_aged base report = nat_le (base.at + 120) report.at

-- the verdict by the trajectory's row, or without one
abbrev pub verdict_by : Rules → Base → Report → Option Row → Verdict
verdict_by rules base report (Some row) = record {
  lateral = is_lateral rules row report;
  along = is_along rules row report;
  vertical = is_vertical rules row report;
  aged = is_aged base report;
  outside = false;
}
verdict_by rules base report None = record { lateral = false; along = false; vertical = false; aged = is_aged base report; outside = true }

-- the verdict on a flight's report
abbrev pub verdict_of : Rules → Base → Trajectory → Report → Verdict
verdict_of rules base t report = verdict_by rules base report (row_at t report.at)

-- some flag of the verdict is set
abbrev pub is_flagged : Verdict → Bool
is_flagged v = v.lateral || v.along || v.vertical || v.aged || v.outside
