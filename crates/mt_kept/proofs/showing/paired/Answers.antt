use Rattle.std.proofs.Common.{inr, sym, ◌∙◌}
use Rattle.mt_kept.proofs.Publishing.{after_of}
use Rattle.mt_kept.proofs.showing.paired.Goals as goal

pub returns-else-lt : goal.returns-else-lt
returns-else-lt c = inr (after_of c.args.left.now.call c.args.right.now.call (sym c.lt.ensures ∙ c.if-lt.false) c.requires, c.in_order-else-lt.ensures)
