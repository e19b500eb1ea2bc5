-- Where a sound course begins anew is right.
use Rattle.std.proofs.Common.{◌≡◌, ℕ, ◌-◌, ◌<◌, true, false, length, All, Option, Some, None, nat_lt, unwrap_or, subst, sym, refl, if◌then◌else◌}
use Rattle.std.specs.Prelude.{option_map, slice_get}
use Rattle.mt_base.specs.declared.flight.Base.{Base}
use Rattle.mt_base.specs.declared.flight.Course.{Course}
use Rattle.mt_base.specs.declared.flight.Path.TheVariants.{Planned}
use Rattle.mt_base.specs.declared.flight.Report.{Report}
use Rattle.mt_base.specs.declared.row.Row.{Row}
use Rattle.mt_base.specs.declared.rules.Rules.{Rules}
use Rattle.mt_base.specs.Bounds.{AreWithinBounds, IsBoundedReport, IsRightBase, IsSoundCourse}
use Rattle.mt_base.specs.Picture.{trajectory_of}
use Rattle.mt_base.specs.Renewed.{base_at_report, row_by}
use Rattle.mt_base.specs.Tables.{Setup}
use Rattle.mt_base.specs.Trajectory.{Trajectory}
use Rattle.mt_predict.proofs.Aims.{IsOnRoute, row_of, rows_on_route}

module _ (rules : Rules) (names : ℕ) (t : Trajectory) (all : All (IsOnRoute rules names) t.rows) where
  -- the row by a second is one of the rows
  row_by_on_route : (k : ℕ) (row : Row) → row_by t k ≡ Some row → IsOnRoute rules names row
  row_by_on_route k row =
      elim (nat_lt k t.start) as (λ b. (if b then None else if nat_lt (k - t.start) (length t.rows) then (if b then None else slice_get t.rows (k - t.start))
      else slice_get t.rows (length t.rows - 1)) ≡ Some row → IsOnRoute rules names row) [
        | true ↦ λ e. cc
        | false ↦ elim (nat_lt (k - t.start) (length t.rows)) as (λ b. (if b then slice_get t.rows (k - t.start) else slice_get t.rows (length t.rows - 1)) ≡ Some row
            → IsOnRoute rules names row) [
              | true ↦ λ e. row_of t.rows (k - t.start) row all e
              | false ↦ λ e. row_of t.rows (length t.rows - 1) row all e
            ]
      ]

  leg_on_route : (next : ℕ) (row : Option Row) → ((r : Row) → row ≡ Some r → IsOnRoute rules names r) → next < names
      → unwrap_or (option_map (λ (r : Row). r.leg) row) next < names
  leg_on_route next None on below = below
  leg_on_route next (Some r) on below = (on r refl).leg

  right_at : (base : Base) (report : Report) → AreWithinBounds rules → IsBoundedReport report → base.next < names
      → IsRightBase rules names (base_at_report rules base t report)
  right_at base report kept bounded below = record {
    early = bounded.early;
    plane = bounded.plane;
    height = bounded.height;
    r = kept.r0;
    w = kept.w0;
    next = leg_on_route base.next (row_by t report.at) (row_by_on_route report.at) below;
  }

pub renewed_right : (setup : Setup) (course : Course) (t : Trajectory) (report : Report) → AreWithinBounds setup.rules → IsSoundCourse setup course
    → t ≡ trajectory_of setup (Planned course) → course.last ≡ Some report
    → IsRightBase setup.rules (length course.route) (base_at_report setup.rules course.base t report)
renewed_right setup course t report kept sound flies last =
    let all = subst (λ (t : Trajectory). All (IsOnRoute setup.rules (length course.route)) t.rows) (sym flies) (rows_on_route setup course kept sound) in
    let bounded : IsBoundedReport report = rw last at sound.last in
    right_at setup.rules (length course.route) t all course.base report kept bounded sound.base.next
