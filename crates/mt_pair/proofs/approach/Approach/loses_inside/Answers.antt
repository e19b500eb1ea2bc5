use Rattle.std.proofs.lemmas.Bool.Decides.{not_from_Decides}
use Rattle.mt_pair.specs.Private.Below.{AreBelowAt}
use Rattle.mt_pair.specs.Private.Cases.{IsHighLoss}
use Rattle.std.specs.Option.{option_copied}
use Rattle.mt_pair.proofs.Low.{copied_none, copied_some}
use Rattle.mt_pair.proofs.Either.{by_first, by_none, by_second, by_some}
use Rattle.mt_pair.proofs.approach.Approach.loses_inside.Goals as goal

pub returns-then-are_below_inside : goal.returns-then-are_below_inside
returns-then-are_below_inside c =
    let x = c.args.self.now in
    by_first (AreBelowAt x.gap x.over x.under) (IsHighLoss x.gap (option_copied x.high)) c.args.lo c.args.hi (c.are_below_inside.ensures.0 c.if-are_below_inside.true)

pub returns-in_default : goal.returns-in_default
returns-in_default c =
    let x = c.args.self.now in
    by_second (AreBelowAt x.gap x.over x.under) (IsHighLoss x.gap (option_copied x.high)) c.args.lo c.args.hi _
    (not_from_Decides _ c.are_below_inside.ensures c.if-are_below_inside.false) (by_none x.gap (option_copied x.high) c.args.lo c.args.hi (copied_none x c.in_default.is))

pub returns : goal.returns
returns c =
    let x = c.args.self.now in
    by_second (AreBelowAt x.gap x.over x.under) (IsHighLoss x.gap (option_copied x.high)) c.args.lo c.args.hi _
    (not_from_Decides _ c.are_below_inside.ensures c.if-are_below_inside.false)
    (by_some x.gap (option_copied x.high) c.in-Some.high.now c.args.lo c.args.hi _ (copied_some x c.in-Some.high c.in-Some.is) c.loses_inside.ensures)
