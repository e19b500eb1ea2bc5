use Rattle.std.proofs.Common.{take, refl, pos, ◌+ℤ◌, ◌*ℤ◌}
use Rattle.mt_base.specs.Area.{IsInside}
use Rattle.mt_base.proofs.Spans.{IsSpan-same}
use Rattle.mt_frac.specs.Instants.{HoldsIn}
use Rattle.mt_frac.specs.Meeting.{AreBelow}
use Rattle.mt_track.specs.Rows.{row_after}
use Rattle.mt_area.proofs.Instants.{during, inside_moved, inside_second}
use Rattle.mt_area.proofs.segment.pierce_before.Goals as goal

pub returns-in_err-lines : goal.returns-in_err-lines
returns-in_err-lines c = rw c.from_residual.ensures (λ k begun ahead inside.
    c.in_err-lines.ensures.none refl (inside.n +ℤ pos k *ℤ inside.d) inside.d (during c.args.seconds k inside.n inside.d ahead inside.begun inside.within)
    ((inside_moved c.args.area.now c.args.row.now k inside.n inside.d).0 inside.at))

pub returns : goal.returns
returns c =
    IsSpan-same (HoldsIn (AreBelow (take c.in_ok-lines.count c.in_ok-lines.lines))) (λ k. IsInside c.args.area.now (row_after c.args.row.now k)) 0 c.args.seconds c.span_before.result
    (λ k begun ahead. inside_second c.args.area.now c.args.row.now c.args.seconds _ k c.in_ok-lines.ensures.some.1 ahead) c.span_before.ensures
