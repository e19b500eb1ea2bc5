-- Where a flight's new trajectory begins after a report that deviates from the old one.
use Rattle.std.specs.Prelude.{ℕ, ◌-◌, length, slice_get, nat_lt, Option, None, unwrap_or, option_map, if◌then◌else◌}
use Rattle.mt_base.specs.declared.flight.Base.{Base}
use Rattle.mt_base.specs.declared.flight.Course.{Course}
use Rattle.mt_base.specs.declared.flight.Report.{Report}
use Rattle.mt_base.specs.declared.row.Row.{Row}
use Rattle.mt_base.specs.declared.rules.Rules.{Rules}
use Rattle.mt_base.specs.Trajectory.{Trajectory, row_at}

-- the row at a second, or the last one before it. None before the trajectory begins, or where it has no rows.
abbrev pub row_by : Trajectory → ℕ → Option Row
row_by t k = if nat_lt k t.start then None else if nat_lt (k - t.start) (length t.rows) then row_at t k else slice_get t.rows (length t.rows - 1)

-- the base at a report: its position, the first margins, the fix flown to by then. And its second.
abbrev pub base_at_report : Rules → Base → Trajectory → Report → Base
base_at_report rules base t report = record {
  at = report.at;
  x = report.x;
  y = report.y;
  z = report.z;
  r = rules.r0;
  w = rules.w0;
  next = unwrap_or (option_map (λ (row : Row). row.leg) (row_by t report.at)) base.next;
}

-- the base of a due flight's renewal, at its last report. A flight that isn't due has none.
abbrev pub renewed : Rules → Course → Trajectory → Option Base
renewed rules course t = if course.due then option_map (base_at_report rules course.base t) course.last else None
