use Rattle.std.proofs.Common.{sym, ◌∙◌}
use Rattle.mt_read.specs.Corners.{as_corner}
use Rattle.mt_read.proofs.EachRead.{all_read, item_read, item_refused}
use Rattle.mt_read.proofs.corners.corners_of.Goals as goal

pub returns-in_default : goal.returns-in_default
returns-in_default c =
    item_refused as_corner c.loop-value.corners c.args.values.now c.loop-value.value-index c.value-item.result _ c.loop-value-test.true
    c.value-item.is (sym c.corner.ensures ∙ c.in_default.is) c.loop-value.invariant

pub loop-value-preserved : goal.loop-value-preserved
loop-value-preserved c =
    item_read as_corner c.loop-value.corners _ c.args.values.now c.loop-value.value-index c.value-item.result c.in-Some.corner _
    c.loop-value-test.true c.value-item.is (sym c.corner.ensures ∙ c.in-Some.is) c.in_ok-push.ensures.ok c.loop-value.invariant

pub returns : goal.returns
returns c = all_read as_corner c.loop-value.corners c.args.values.now c.loop-value.value-index _ c.loop-value-test.false c.loop-value.invariant
