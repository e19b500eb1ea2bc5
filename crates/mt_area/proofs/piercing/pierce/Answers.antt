use Rattle.std.proofs.Common.{arith}
use Rattle.mt_base.specs.Area.{IsInsideSecond}
use Rattle.mt_track.proofs.Ranges.{IsSpan-cut}
use Rattle.mt_area.proofs.Walks.{held}
use Rattle.mt_area.proofs.piercing.pierce.Goals as goal

pub returns-then-end-begin : goal.returns-then-end-begin
returns-then-end-begin c = λ k low high second.
    let at = held c.args.strand.now c.args.area.now k second in
    absurd (omega arith)

pub returns : goal.returns
returns c =
    IsSpan-cut (IsInsideSecond c.args.strand.now c.args.area.now) c.args.from c.args.to _ _ _ (omega arith) (omega arith)
    (λ k low high second.
    let at = held c.args.strand.now c.args.area.now k second in
    (omega arith, omega arith)) c.walk.ensures
