use Rattle.std.proofs.Common.{◌-◌, arith}
use Rattle.mt_pair.proofs.Instants.{loses_in, none_lose}
use Rattle.mt_pair.proofs.Low.{copied_none, copied_some}
use Rattle.mt_pair.proofs.Spans.{IsSpan-loss}
use Rattle.mt_pair.proofs.overlap.span_from.Goals as goal

pub returns-then-not-are_low-clause-span : goal.returns-then-not-are_low-clause-span
returns-then-not-are_low-clause-span c =
    let x = c.of-approach.result in
    IsSpan-loss c.args.rules.now c.args.a_rvsm c.args.b_rvsm c.args.a.now c.args.b.now c.args.from c.args.to x c.span_after.result c.requires.some
    (loses_in c.args.rules.now c.args.a_rvsm c.args.b_rvsm c.args.a.now c.args.b.now (c.args.to - c.args.from) x (omega arith)
    c.of-approach.ensures.gap c.of-approach.ensures.over c.of-approach.ensures.under
    (rw (copied_some x _ c.of-approach.ensures.high) (rw c.both-approved.ensures at c.of-high.ensures)))
    c.span_after.ensures.span

pub returns-then-are_far-clause-span : goal.returns-then-are_far-clause-span
returns-then-are_far-clause-span c = λ k begun ahead.
    none_lose c.args.rules.now c.args.a_rvsm c.args.b_rvsm c.args.a.now c.args.b.now (c.args.to - c.args.from) (omega arith)
    (c.are_far.ensures.0 c.if-are_far.true) (rw c.both-approved.ensures at (c.are_low.ensures.0 c.if-not-are_low.false)) (k - c.args.from) (omega arith)

pub returns-clause-span : goal.returns-clause-span
returns-clause-span c =
    let x = c.of-approach-2.result in
    IsSpan-loss c.args.rules.now c.args.a_rvsm c.args.b_rvsm c.args.a.now c.args.b.now c.args.from c.args.to x c.span_after-2.result c.requires.some
    (loses_in c.args.rules.now c.args.a_rvsm c.args.b_rvsm c.args.a.now c.args.b.now (c.args.to - c.args.from) x (omega arith)
    c.of-approach-2.ensures.gap c.of-approach-2.ensures.over c.of-approach-2.ensures.under
    (rw (copied_none x c.of-approach-2.ensures.high) (rw c.both-approved.ensures at (c.are_low.ensures.0 c.if-not-are_low.false))))
    c.span_after-2.ensures.span
