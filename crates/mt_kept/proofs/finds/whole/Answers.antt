use Rattle.mt_track.specs.Named.{named}
use Rattle.mt_kept.proofs.Hulls.{whole_within}
use Rattle.mt_kept.proofs.finds.whole.Goals as goal

pub returns-in-Within-clause-is : goal.returns-in-Within-clause-is
returns-in-Within-clause-is c =
    let known = rw c.in-Within.is at c.requires.known in
    whole_within c.args.rules.now (named c.args.item.now).path (named c.args.other.now).path c.in-Within.first c.in-Within.last c.loss_of.result.span known
    (rw (c.deref.ensures, c.deref-in-Within.ensures) at c.loss_of.ensures.conflict)
