use Rattle.std.proofs.Common.{◌-◌, None, Some, arith}
use Rattle.mt_base.specs.Area.{IsInside}
use Rattle.mt_track.specs.Rows.{row_after}
use Rattle.mt_base.proofs.Spans.{IsSpan-later}
use Rattle.mt_area.proofs.segment.pierce_from.Goals as goal

pub returns-in_err-first : goal.returns-in_err-first
returns-in_err-first c = rw c.from_residual.ensures
    (IsSpan-later (λ k. IsInside c.args.area.now (row_after c.args.row.now k)) (λ k. IsInside c.args.area.now (row_after c.args.row.now (k - c.args.from)))
    c.args.from (c.args.to - c.args.from) c.args.to None (omega arith) (λ k begun. ((λ h. h), (λ h. h))) c.in_err-first.ensures)

pub returns : goal.returns
returns c =
    IsSpan-later (λ k. IsInside c.args.area.now (row_after c.args.row.now k)) (λ k. IsInside c.args.area.now (row_after c.args.row.now (k - c.args.from)))
    c.args.from (c.args.to - c.args.from) c.args.to (Some (c.in_ok-first.first, c.in_ok-first.last)) (omega arith) (λ k begun. ((λ h. h), (λ h. h))) c.in_ok-first.ensures
