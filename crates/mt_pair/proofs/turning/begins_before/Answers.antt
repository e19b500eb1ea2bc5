use Rattle.std.proofs.Common.{sym, true≢false, refl}
use Rattle.std.proofs.lemmas.Bool.Decides.{not_from_Decides}
use Rattle.mt_pair.specs.Private.Turning.{IsFalling}
use Rattle.mt_pair.proofs.Turns.{AreNone, none_before_gap, none_before_over, none_before_under, some_before}
use Rattle.mt_pair.proofs.turning.begins_before.Goals as goal

pub returns-then-gap_is_later : goal.returns-then-gap_is_later
returns-then-gap_is_later c = λ low high less some.
    ((λ t. absurd (true≢false (sym t))), (λ t. absurd (none_before_gap c.args.gap c.args.over c.args.under low c.args.k c.requires.convex (c.gap_is_later.ensures.0 c.if-gap_is_later.true) t)))

pub returns-then-line_is_later : goal.returns-then-line_is_later
returns-then-line_is_later c = λ low high less some.
    ((λ t. absurd (true≢false (sym t))), (λ t. absurd (none_before_over c.args.gap c.args.over c.args.under low c.args.k (c.line_is_later.ensures.0 c.if-line_is_later.true) t)))

pub returns-then-line_is_later-2 : goal.returns-then-line_is_later-2
returns-then-line_is_later-2 c = λ low high less some.
    ((λ t. absurd (true≢false (sym t))), (λ t. absurd (none_before_under c.args.gap c.args.over c.args.under low c.args.k (c.line_is_later-2.ensures.0 c.if-line_is_later-2.true) t)))

pub returns : goal.returns
returns c = λ low high less some.
    let none : AreNone IsFalling c.args.gap c.args.over c.args.under c.args.k = record {
      gap_is = not_from_Decides _ c.gap_is_later.ensures c.if-gap_is_later.false;
      over_is = not_from_Decides _ c.line_is_later.ensures c.if-line_is_later.false;
      under_is = not_from_Decides _ c.line_is_later-2.ensures c.if-line_is_later-2.false;
    } in
    ((λ t. some_before c.args.gap c.args.over c.args.under low high c.args.k c.requires.convex less none some), (λ t. refl))
