use Rattle.std.proofs.Common.{sym, true≢false, refl}
use Rattle.std.proofs.lemmas.Bool.Decides.{not_from_Decides}
use Rattle.mt_pair.specs.Private.Turning.{IsSooner}
use Rattle.mt_pair.proofs.Turns.{AreNone, none_from_gap, none_from_over, none_from_under, some_since}
use Rattle.mt_pair.proofs.turning.lasts_until.Goals as goal

pub returns-then-gap_is_sooner : goal.returns-then-gap_is_sooner
returns-then-gap_is_sooner c = λ low high less some.
    ((λ t. absurd (true≢false (sym t))), (λ t. absurd (none_from_gap c.args.gap c.args.over c.args.under c.args.k high c.requires.convex (c.gap_is_sooner.ensures.0 c.if-gap_is_sooner.true) t)))

pub returns-then-line_is_sooner : goal.returns-then-line_is_sooner
returns-then-line_is_sooner c = λ low high less some.
    ((λ t. absurd (true≢false (sym t))), (λ t. absurd (none_from_over c.args.gap c.args.over c.args.under c.args.k high (c.line_is_sooner.ensures.0 c.if-line_is_sooner.true) t)))

pub returns-then-line_is_sooner-2 : goal.returns-then-line_is_sooner-2
returns-then-line_is_sooner-2 c = λ low high less some.
    ((λ t. absurd (true≢false (sym t))), (λ t. absurd (none_from_under c.args.gap c.args.over c.args.under c.args.k high (c.line_is_sooner-2.ensures.0 c.if-line_is_sooner-2.true) t)))

pub returns : goal.returns
returns c = λ low high less some.
    let none : AreNone IsSooner c.args.gap c.args.over c.args.under c.args.k = record {
      gap_is = not_from_Decides _ c.gap_is_sooner.ensures c.if-gap_is_sooner.false;
      over_is = not_from_Decides _ c.line_is_sooner.ensures c.if-line_is_sooner.false;
      under_is = not_from_Decides _ c.line_is_sooner-2.ensures c.if-line_is_sooner-2.false;
    } in
    ((λ t. some_since c.args.gap c.args.over c.args.under low high c.args.k c.requires.convex less none some), (λ t. refl))
