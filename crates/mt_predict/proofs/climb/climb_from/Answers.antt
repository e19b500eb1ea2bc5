use Rattle.std.proofs.Common.{arith, w64}
use Rattle.std.proofs.lemmas.Int.{ints, to_z-of_z}
use Rattle.mt_base.specs.Bounds.{IsBoundedBand}
use Rattle.mt_base.specs.Predictor.{climb_from}
use Rattle.mt_predict.proofs.Bounds.{band_kept}
use Rattle.mt_predict.proofs.Casts.{climb_is}
use Rattle.mt_predict.proofs.climb.climb_from.Goals as goal

pub overflow_sub-band : goal.overflow_sub-band
overflow_sub-band c =
    let kept : IsBoundedBand c.band_at-band.result = rw (c.band_at-band.ensures) (band_kept c.args.bands.now _ c.requires.bands_kept) in
    omega (arith, ints, kept.descent)

pub returns : goal.returns
unfolding climb_from
returns c = λ rules.
    let kept : IsBoundedBand c.band_at-band.result = rw (c.band_at-band.ensures) (band_kept c.args.bands.now _ c.requires.bands_kept) in
    let band = rw (to_z-of_z w64 c.args.z c.ranges.z) at c.band_at-band.ensures in
    rw (← band) (climb_is c.args.level c.args.z c.band_at-band.result.climb c.band_at-band.result.descent c.from.result c.min.result c.max.result
    c.requires.level_kept c.requires.height kept.climb kept.descent c.from.ensures c.min.ensures.value c.max.ensures.value)
