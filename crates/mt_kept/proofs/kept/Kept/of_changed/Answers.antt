use Rattle.mt_kept.proofs.Owned.{own_next}
use Rattle.mt_kept.proofs.kept.Kept.of_changed.Goals as goal

pub loop-change-preserved : goal.loop-change-preserved
loop-change-preserved c =
    own_next c.args.self.now.rules c.args.self.now.places c.args.self.now.moment c.args.changes.now c.loop-change.change-index c.change-item.result
    c.loop-change.own.items c.in_ok-others.others.items c.extend_from_slice.new.self.items c.loop-change-test.true c.change-item.is
    (rw c.deref.ensures.value at c.in_ok-extend_from_slice.ensures.items) c.loop-change.invariant c.in_ok-others.ensures
