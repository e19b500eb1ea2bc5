use Rattle.std.proofs.lemmas.Bool.Decides.{not_from_Decides}
use Rattle.mt_pair.specs.Private.Below.{AreBelowWithAt}
use Rattle.mt_pair.proofs.Either.{by_first, by_second}
use Rattle.mt_pair.proofs.approach.High.loses_inside.Goals as goal

pub returns-then-are_below_with : goal.returns-then-are_below_with
returns-then-are_below_with c =
    let high = c.args.self.now in
    rw c.if-are_below_with.true (by_first (AreBelowWithAt c.args.gap high.over high.under high.left) (AreBelowWithAt c.args.gap high.over high.under high.right) c.args.lo c.args.hi
    (c.are_below_with.ensures.0 c.if-are_below_with.true))

pub returns-else-are_below_with : goal.returns-else-are_below_with
returns-else-are_below_with c =
    let high = c.args.self.now in
    by_second (AreBelowWithAt c.args.gap high.over high.under high.left) (AreBelowWithAt c.args.gap high.over high.under high.right) c.args.lo c.args.hi _
    (not_from_Decides _ c.are_below_with.ensures c.if-are_below_with.false) c.are_below_with-else-are_below_with.ensures
