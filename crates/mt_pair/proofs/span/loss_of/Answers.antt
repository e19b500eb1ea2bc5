use Rattle.std.proofs.Common.{arith}
use Rattle.mt_base.specs.Conflict.{IsLossSecond}
use Rattle.mt_track.proofs.Ranges.{IsSpan-cut}
use Rattle.mt_pair.proofs.Spans.{both_cover}
use Rattle.mt_pair.proofs.span.loss_of.Goals as goal

pub returns-then-end-begin-clause-conflict : goal.returns-then-end-begin-clause-conflict
returns-then-end-begin-clause-conflict c = λ k low high loss.
    let covering = both_cover c.args.rules.now c.args.a.now c.args.b.now k loss in
    absurd (omega arith)

pub returns-clause-conflict : goal.returns-clause-conflict
returns-clause-conflict c =
    IsSpan-cut (IsLossSecond c.args.rules.now c.args.a.now c.args.b.now) c.args.from c.args.to _ _ _ (omega arith) (omega arith)
    (λ k low high loss.
    let covering = both_cover c.args.rules.now c.args.a.now c.args.b.now k loss in
    (omega arith, omega arith)) c.walk.ensures.conflict
