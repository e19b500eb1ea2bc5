use Rattle.std.proofs.Common.{sym, ◌∙◌}
use Rattle.mt_read.specs.Field.{as_fix}
use Rattle.mt_read.proofs.EachRead.{all_read, item_read, item_refused}
use Rattle.mt_read.proofs.route.route_of.Goals as goal

pub returns-in_default : goal.returns-in_default
returns-in_default c =
    item_refused as_fix c.loop-value.route c.args.values.now c.loop-value.value-index c.value-item.result _ c.loop-value-test.true c.value-item.is
    (sym c.fix_of.ensures ∙ c.in_default.is) c.loop-value.invariant

pub loop-value-preserved : goal.loop-value-preserved
loop-value-preserved c =
    item_read as_fix c.loop-value.route _ c.args.values.now c.loop-value.value-index c.value-item.result c.in-Some.name _ c.loop-value-test.true
    c.value-item.is (sym c.fix_of.ensures ∙ c.in-Some.is) c.in_ok-push.ensures.ok c.loop-value.invariant

pub returns : goal.returns
returns c = all_read as_fix c.loop-value.route c.args.values.now c.loop-value.value-index _ c.loop-value-test.false c.loop-value.invariant
