use Rattle.std.specs.Prelude.{◌≡◌, ℕ, ℤ, pos, neg_ℤ, ◌+ℤ◌, ◌*ℤ◌, ◌<◌, ◌≤◌, ◌+◌, ◌-◌, ◌≤ℤ◌, true, List, length, All, IfSome, is_some, Ok, ⊤}
use Rattle.mt_base.specs.declared.command.Command.{Command}
use Rattle.mt_base.specs.declared.command.Command.TheVariants.{Plan, External, Drop, Tick, Renew, Clear, Accept, Tentative, Withdraw, Commit}
use Rattle.mt_base.specs.declared.command.Command.TheVariants as commands
use Rattle.mt_base.specs.declared.band.Band.{Band}
use Rattle.mt_base.specs.declared.clearance.Aim.{Aim}
use Rattle.mt_base.specs.declared.clearance.Clearance.{Clearance}
use Rattle.mt_base.specs.declared.clearance.Clearance.TheVariants.{Level, Direct}
use Rattle.mt_base.specs.declared.flight.Base.{Base}
use Rattle.mt_base.specs.declared.flight.Course.{Course}
use Rattle.mt_base.specs.declared.flight.Mark.{Mark}
use Rattle.mt_base.specs.declared.flight.Path.{Path}
use Rattle.mt_base.specs.declared.flight.Path.TheVariants.{Planned, Outer}
use Rattle.mt_base.specs.declared.flight.Record.{Record}
use Rattle.mt_base.specs.declared.flight.Report.{Report}
use Rattle.mt_base.specs.declared.flight.Straight.{Straight}
use Rattle.mt_base.specs.declared.place.Point.{Point}
use Rattle.mt_base.specs.declared.row.Row.{Row}
use Rattle.mt_base.specs.declared.rules.Rules.{Rules}
use Rattle.mt_base.specs.Checks.{judged}
use Rattle.mt_base.specs.Decision.{route_checks}
use Rattle.mt_base.specs.Tables.{Setup, Tables, bands_of}

-- at least `low` and at most `high`
pub record IsWithin (low high z : ℤ) : Type 0 where
  pub least : low ≤ℤ z
  pub most : z ≤ℤ high

-- a value, its gain, and its value after some seconds are within bounds
pub record IsKeptOver (low high least most z gain : ℤ) (seconds : ℕ) : Type 0 where
  pub value : IsWithin low high z
  pub growth : IsWithin least most gain
  pub end : IsWithin low high (z +ℤ gain *ℤ pos seconds)

-- for so many seconds a row stays in the plane, at rates that aircraft fly. x and y are within 1,024 NM of the origin and 1,000 knots, z from 0 to
-- flight level 600 and 10,000 feet a minute, the margins from 0 to 20 NM and 10,000 feet.
pub record IsBoundedOver (row : Row) (seconds : ℕ) : Type 0 where
  pub x : IsKeptOver (neg_ℤ (pos 3686400)) (pos 3686400) (neg_ℤ (pos 1000)) (pos 1000) row.x row.vx seconds
  pub y : IsKeptOver (neg_ℤ (pos 3686400)) (pos 3686400) (neg_ℤ (pos 1000)) (pos 1000) row.y row.vy seconds
  pub z : IsKeptOver (pos 0) (pos 3600000) (neg_ℤ (pos 10000)) (pos 10000) row.z row.vz seconds
  pub r : IsKeptOver (pos 0) (pos 72000) (pos 0) (pos 1000) row.r row.gr seconds
  pub w : IsKeptOver (pos 0) (pos 600000) (pos 0) (pos 10000) row.w row.gw seconds

-- a row stays within bounds during its second
abbrev pub IsBoundedRow : Row → Type 0
IsBoundedRow row = IsBoundedOver row 1

-- a straight stretch of 1 to 14,400 seconds within bounds. It begins by second 10,000,000, and its row names no leg.
pub record IsBoundedStretch (stretch : Straight) : Type 0 where
  pub begins : stretch.from ≤ 10000000
  pub some : stretch.from < stretch.to
  pub short : stretch.to ≤ stretch.from + 14400
  pub kept : IsBoundedOver stretch.first (stretch.to - stretch.from)
  pub no_leg : stretch.first.leg ≡ 0

-- `IsInPlane`, `IsHeight`: a position within 1,024 NM of the origin; a height from 0 to flight level 600
abbrev pub IsInPlane : ℤ → ℤ → Type 0
IsInPlane x y = IsWithin (neg_ℤ (pos 3686400)) (pos 3686400) x × IsWithin (neg_ℤ (pos 3686400)) (pos 3686400) y

abbrev pub IsHeight : ℤ → Type 0
IsHeight z = IsWithin (pos 0) (pos 3600000) z

-- a band's top is flight level 1 to 600, its speed up to 1,000 knots, its rates up to 10,000 feet a minute. Speed and rates are at least 1.
pub record IsBoundedBand (b : Band) : Type 0 where
  pub top : (1 ≤ b.top) × (b.top ≤ 600)
  pub speed : IsWithin (pos 1) (pos 1000) b.speed
  pub climb : IsWithin (pos 1) (pos 10000) b.climb
  pub descent : IsWithin (pos 1) (pos 10000) b.descent

-- 1 to 8 bounded bands
pub record AreBoundedBands (bands : List Band) : Type 0 where
  pub some : 1 ≤ length bands
  pub few : length bands ≤ 8
  pub each : All IsBoundedBand bands

-- fixes in the plane, and types with bounded bands
pub record AreBoundedTables (tables : Tables) : Type 0 where
  pub fixes : All (λ (fix : List ℕ × Point). IsInPlane fix.1.x fix.1.y) tables.fixes
  pub types : All (λ (kind : List ℕ × List Band). AreBoundedBands kind.1) tables.types

-- a base in the plane, with margins within the rules, flying to a place of the route. It begins by second 10,000,000.
pub record IsRightBase (rules : Rules) (names : ℕ) (base : Base) : Type 0 where
  pub early : base.at ≤ 10000000
  pub plane : IsInPlane base.x base.y
  pub height : IsHeight base.z
  pub r : IsWithin (pos 0) rules.rmax base.r
  pub w : IsWithin (pos 0) rules.wmax base.w
  pub next : base.next < names

-- a tentative clearance has a right base and a level up to 600
pub record IsRightMark (rules : Rules) (names : ℕ) (mark : Mark) : Type 0 where
  pub base : IsRightBase rules names mark.base
  pub level : mark.level ≤ 600

-- a report in the plane, up to second 10,000,000
pub record IsBoundedReport (report : Report) : Type 0 where
  pub early : report.at ≤ 10000000
  pub plane : IsInPlane report.x report.y
  pub height : IsHeight report.z

-- a clearance leaves a right base and a level up to 600
pub record IsRightAim (rules : Rules) (names : ℕ) (aim : Aim) : Type 0 where
  pub base : IsRightBase rules names aim.base
  pub level : aim.level ≤ 600

-- a planned course fits rules and tables: type, route, level, base, tentative clearance. It has 2 to 64 fixes, no two neighbours equal; it is due
-- only with a report.
pub record IsSoundCourse (setup : Setup) (course : Course) : Type 0 where
  pub kind : is_some (bands_of setup.tables course.kind) ≡ true
  pub route : judged (route_checks setup.tables course.route) (tt {0}) ≡ Ok (tt {0})
  pub level : course.level ≤ 600
  pub base : IsRightBase setup.rules (length course.route) course.base
  pub mark : IfSome course.mark (IsRightMark setup.rules (length course.route))
  pub last : IfSome course.last IsBoundedReport
  pub due : course.due ≡ true → is_some course.last ≡ true

-- `IsSoundPath`, `IsSoundFlight`: a path, and a flight, fits rules and tables
abbrev pub IsSoundPath : Setup → Path → Type 0
IsSoundPath setup (Planned course) = IsSoundCourse setup course
IsSoundPath setup (Outer stretch) = IsBoundedStretch stretch

abbrev pub IsSoundFlight : Setup → Record → Type 0
IsSoundFlight setup flight = IsSoundPath setup flight.path

-- a level up to flight level 600, or direct to a fix
abbrev pub IsBoundedClearance : Clearance → Type 0
IsBoundedClearance (Level level) = level ≤ 600
IsBoundedClearance (Direct fix) = ⊤

-- a command's numbers are within bounds
abbrev pub IsBoundedCommand : Command → Type 0
IsBoundedCommand (Plan call kind route at from level rvsm) = (at ≤ 10000000) × (from ≤ 600) × (level ≤ 600)
IsBoundedCommand (External call straight) = IsBoundedStretch straight
IsBoundedCommand (Drop call) = Unit {0}
IsBoundedCommand (commands.Report call report) = IsBoundedReport report
IsBoundedCommand (Tick now) = now ≤ 10000000
IsBoundedCommand (Renew call) = Unit {0}
IsBoundedCommand (Clear call clearance eff) = IsBoundedClearance clearance × IfSome eff (λ second. second ≤ 10000000)
IsBoundedCommand (Accept call clearance eff probed) = IsBoundedClearance clearance × (eff ≤ 10000000) × (probed ≤ 4194304)
IsBoundedCommand (Tentative call clearance eff) = IsBoundedClearance clearance × IfSome eff (λ second. second ≤ 10000000)
IsBoundedCommand (Withdraw call force) = Unit {0}
IsBoundedCommand (Commit call) = Unit {0}

-- any command but an acceptance. A probe is accepted by its number.
abbrev pub IsAskedFor : Command → Type 0
IsAskedFor (Accept call clearance eff probed) = ⊥
IsAskedFor command = ⊤

-- each rule is within its bounds
pub record AreWithinBounds (rules : Rules) : Type 0 where
  pub sh : IsWithin (pos 1) (pos 72000) rules.sh
  pub sv : IsWithin (pos 1) (pos 600000) rules.sv
  pub r0 : IsWithin (pos 0) rules.rmax rules.r0
  pub gh : IsWithin (pos 0) (pos 1000) rules.gh
  pub rmax : IsWithin (pos 0) (pos 72000) rules.rmax
  pub w0 : IsWithin (pos 0) rules.wmax rules.w0
  pub gv : IsWithin (pos 0) (pos 10000) rules.gv
  pub wmax : IsWithin (pos 0) (pos 600000) rules.wmax
  pub tc : IsWithin (pos 0) (pos 360000) rules.tc
  pub ta : IsWithin (pos 0) (pos 360000) rules.ta
  pub tv : IsWithin (pos 0) (pos 600000) rules.tv
  pub flights : IsWithin (pos 1) (pos 1024) rules.flights
  pub history : IsWithin (pos 1) (pos 4194304) rules.history
  pub sv2 : IsWithin rules.sv (pos 600000) rules.sv2
