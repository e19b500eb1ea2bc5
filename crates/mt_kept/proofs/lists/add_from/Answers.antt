use Rattle.mt_kept.specs.Private.Stale.{comes_due}
use Rattle.mt_kept.proofs.Due.{due_added}
use Rattle.mt_kept.proofs.lists.add_from.Goals as goal

pub returns : goal.returns
returns c =
    due_added c.add_due.result (comes_due c.args.moment c.args.now c.args.stale.now) c.args.pairs.now.edges c.in_ok-others.others.items c.args.edges.now.items
    c.add_due.new.edges.items c.args.seconds.0 c.args.seconds.1 c.in_ok-others.ensures (rw c.deref.ensures.value at c.add_due.ensures)
