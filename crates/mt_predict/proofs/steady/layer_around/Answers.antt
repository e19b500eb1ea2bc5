use Rattle.std.proofs.Common.{pos}
use Rattle.mt_base.specs.declared.band.Band.{Band}
use Rattle.mt_predict.proofs.Layers.{one_more, same_band}
use Rattle.mt_predict.proofs.steady.layer_around.Goals as goal

none : Band
none = record { top = 0; speed = pos 0; climb = pos 0; descent = pos 0 }

pub loop-band-preserved : goal.loop-band-preserved
unfolding none
loop-band-preserved c = record {
  lowest = c.on_one_side-layer.ensures.lowest;
  highest = c.on_one_side-layer.ensures.highest;
  same = λ h within. one_more c.args.bands.now c.loop-band.band-index none _ h c.from.result c.loop-band-test.true
      (c.requires.bands_kept.each c.loop-band.band-index none c.loop-band-test.true).top.1 c.from.ensures
      (c.loop-band.invariant.same h (c.on_one_side-layer.ensures.inside h within)) (c.on_one_side-layer.ensures.side h within);
}

pub returns-clause-same : goal.returns-clause-same
returns-clause-same c = λ h within.
    same_band c.args.bands.now c.args.z h c.loop-band.band-index c.ranges.z c.loop-band-test.false (c.loop-band.invariant.same h within)
