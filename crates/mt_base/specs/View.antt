-- A flight at a second, as a view shows it.
use Rattle.std.specs.Prelude.{◌+◌, ℕ, List, length, Option, Some, None, false, unwrap_or, option_map}
use Rattle.mt_base.specs.declared.flight.FlightView.{FlightView}
use Rattle.mt_base.specs.declared.flight.Mark.{Mark}
use Rattle.mt_base.specs.declared.flight.Path.{Path}
use Rattle.mt_base.specs.declared.flight.Path.TheVariants.{Planned, Outer}
use Rattle.mt_base.specs.declared.flight.Record.{Record}
use Rattle.mt_base.specs.declared.flight.Tent.{Tent}
use Rattle.mt_base.specs.Picture.{State, trajectory_of}
use Rattle.mt_base.specs.Tables.{Setup}
use Rattle.mt_base.specs.Trajectory.{Trajectory, row_at}

-- a tentative clearance as a view shows it
abbrev pub tent_of : Mark → Tent
tent_of mark = record { level = mark.level; owner = mark.owner; start = mark.base.at }

-- a flight at a second, as a view shows it: seconds, row, level, whether it is due, tentative clearance. Its trajectory's first second, the one after
-- its last and its row of that second; and of a planned one its level, whether a new trajectory is due, and its tentative clearance.
abbrev pub view_of_path : List ℕ → Path → Trajectory → ℕ → ℕ → FlightView
view_of_path call (Planned course) t k version = record {
  call = call;
  due = course.due;
  end = t.start + length t.rows;
  level = Some course.level;
  row = row_at t k;
  start = t.start;
  tentative = option_map tent_of course.mark;
  version = version;
}
view_of_path call (Outer stretch) t k version = record {
  call = call;
  due = false;
  end = t.start + length t.rows;
  level = None;
  row = row_at t k;
  start = t.start;
  tentative = None;
  version = version;
}

-- the view of a flight at a second, by default the moment
abbrev pub view_of : Setup → State → Option ℕ → Record → FlightView
view_of setup s sec flight =
    view_of_path flight.call flight.path (trajectory_of setup flight.path) (unwrap_or sec s.now) s.version
