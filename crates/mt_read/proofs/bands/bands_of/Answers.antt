use Rattle.std.proofs.Common.{sym, ◌∙◌}
use Rattle.mt_read.specs.Bands.{as_band}
use Rattle.mt_read.proofs.EachRead.{all_read, item_read, item_refused}
use Rattle.mt_read.proofs.bands.bands_of.Goals as goal

pub returns-in_default : goal.returns-in_default
returns-in_default c =
    item_refused as_band c.loop-value.bands c.args.values.now c.loop-value.value-index c.value-item.result _ c.loop-value-test.true c.value-item.is
    (sym c.band.ensures ∙ c.in_default.is) c.loop-value.invariant

pub loop-value-preserved : goal.loop-value-preserved
loop-value-preserved c =
    item_read as_band c.loop-value.bands _ c.args.values.now c.loop-value.value-index c.value-item.result c.in-Some.band _ c.loop-value-test.true
    c.value-item.is (sym c.band.ensures ∙ c.in-Some.is) c.in_ok-push.ensures.ok c.loop-value.invariant

pub returns : goal.returns
returns c = all_read as_band c.loop-value.bands c.args.values.now c.loop-value.value-index _ c.loop-value-test.false c.loop-value.invariant
