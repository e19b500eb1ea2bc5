use Rattle.mt_load.specs.Input.{fix}
use Rattle.mt_load.proofs.Lists.{each_more, each_none}
use Rattle.mt_load.proofs.fixes.put_fixes.Goals as goal

pub loop-number-init : goal.loop-number-init
loop-number-init c = each_none fix c.args.list.now.items

pub loop-number-preserved : goal.loop-number-preserved
loop-number-preserved c =
    each_more fix c.loop-number.number c.args.list.now.items _ _ c.fix.result c.loop-number.invariant c.fix.ensures c.in_ok-push.ensures.items
