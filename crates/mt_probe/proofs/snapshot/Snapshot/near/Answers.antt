use Rattle.std.proofs.Common.{arith}
use Rattle.mt_probe.proofs.NearItems.{near_all, near_no_more, near_none, near_one_more}
use Rattle.mt_probe.proofs.snapshot.Snapshot.near.Goals.{then-branch+in_ok-push, else-branch}
use Rattle.mt_probe.proofs.snapshot.Snapshot.near.Goals as goal

pub loop-item-init : goal.loop-item-init
loop-item-init c = rw c.new-items.ensures.items (near_none c.args.self.now c.args.cover.now)

pub loop-item-preserved : goal.loop-item-preserved
loop-item-preserved c =
    let shot = c.args.self.now in
    let is = c.in_ok-is_near.ensures in
    elim c.if-branch.branch [
      | then-branch+in_ok-push w ↦ rw (w.items-is, w.in_ok-push.ensures.items)
          (near_one_more shot c.args.cover.now c.loop-item.item c.loop-item.items.items (is.0 w.if-branch.true) c.loop-item.invariant)
      | else-branch w ↦ rw w.items-is (near_no_more shot c.args.cover.now c.loop-item.item c.loop-item.items.items
          (λ near. let here = is.1 near in let not = w.if-branch.false in cc) c.loop-item.invariant)
    ]

pub returns : goal.returns
returns c = near_all c.args.self.now c.args.cover.now c.loop-item.item c.loop-item.items.items
    (omega (arith, c.loop-item.auto.item-end, c.loop-item-test.false, c.slots-item-end.ensures)) c.loop-item.invariant
