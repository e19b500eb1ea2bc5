use Rattle.std.proofs.Common.{None, Some}
use Rattle.mt_pair.proofs.Spans.{IsSpan-after}
use Rattle.mt_pair.proofs.overlap.span_after.Goals as goal

pub returns-in_err-first-clause-span : goal.returns-in_err-first-clause-span
returns-in_err-first-clause-span c =
    rw c.from_residual.ensures (IsSpan-after c.args.approach.now c.args.from c.args.to None c.requires.some c.in_err-first.ensures.span)

pub returns-clause-span : goal.returns-clause-span
returns-clause-span c = IsSpan-after c.args.approach.now c.args.from c.args.to (Some (c.in_ok-first.first, c.in_ok-first.last)) c.requires.some c.in_ok-first.ensures.span
