use Rattle.std.proofs.Common.{◌-◌}
use Rattle.mt_base.specs.Loss.{LosesIn}
use Rattle.mt_track.specs.Rows.{row_after}
use Rattle.mt_base.proofs.Spans.{IsSpan-same}
use Rattle.mt_pair.proofs.Spans.{loses_after}
use Rattle.mt_pair.proofs.overlap.overlap.Goals as goal

pub later-a-requires : goal.later-a-requires
later-a-requires c = c.requires.s_stands.kept

pub later-b-requires : goal.later-b-requires
later-b-requires c = c.requires.t_stands.kept

pub span_from-requires-clause-rules_kept : goal.span_from-requires-clause-rules_kept
span_from-requires-clause-rules_kept c = c.requires.rules_kept

pub span_from-requires-clause-a_kept : goal.span_from-requires-clause-a_kept
span_from-requires-clause-a_kept c = rw c.later-a.ensures c.requires.s_stands.bounded

pub span_from-requires-clause-b_kept : goal.span_from-requires-clause-b_kept
span_from-requires-clause-b_kept c = rw c.later-b.ensures c.requires.t_stands.bounded

pub span_from-requires-clause-some : goal.span_from-requires-clause-some
span_from-requires-clause-some c = c.requires.some

pub span_from-requires-clause-short : goal.span_from-requires-clause-short
span_from-requires-clause-short c = c.requires.short

pub returns-clause-counted : goal.returns-clause-counted
returns-clause-counted c = c.span_from.ensures.counted

pub returns-clause-span : goal.returns-clause-span
returns-clause-span c =
    let rules = c.args.rules.now in
    let s = c.args.s.now in
    let t = c.args.t.now in
    let span = rw (c.later-a.ensures, c.later-b.ensures) at c.span_from.ensures.span in
    IsSpan-same
    (λ k. LosesIn rules c.args.s_rvsm c.args.t_rvsm (row_after (row_after s.first (c.args.from - s.from)) (k - c.args.from)) (row_after (row_after t.first (c.args.from - t.from)) (k - c.args.from)))
    (λ k. LosesIn rules c.args.s_rvsm c.args.t_rvsm (row_after s.first (k - s.from)) (row_after t.first (k - t.from)))
    c.args.from c.args.to c.span_from.result
    (λ k begun ahead. loses_after rules c.args.s_rvsm c.args.t_rvsm s.first t.first s.from t.from c.args.from k c.requires.s_stands.begun c.requires.t_stands.begun begun) span
