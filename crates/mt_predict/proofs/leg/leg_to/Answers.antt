use Rattle.std.proofs.Common.{w64, rules, arith, FitsSigned}
use Rattle.std.proofs.lemmas.Int.{ints, to_z-of_z}
use Rattle.mt_base.specs.Bounds.{IsBoundedBand}
use Rattle.mt_predict.proofs.Bounds.{band_kept}
use Rattle.mt_predict.proofs.Casts.{as_is}
use Rattle.mt_predict.proofs.Reading.{leg_is}
use Rattle.mt_predict.proofs.leg.leg_to.Goals as goal

pub seconds_of-seconds-requires-clause-fast : goal.seconds_of-seconds-requires-clause-fast
seconds_of-seconds-requires-clause-fast c =
    let kept : IsBoundedBand c.band_at.result = rw (c.band_at.ensures) (band_kept c.args.bands.now _ c.requires.bands_kept) in
    rw (as_is c.band_at.result.speed (omega (arith, ints, kept.speed)) (omega (arith, ints, kept.speed))) kept.speed

pub returns : goal.returns
returns c =
    let kept : IsBoundedBand c.band_at.result = rw (c.band_at.ensures) (band_kept c.args.bands.now _ c.requires.bands_kept) in
    let height : FitsSigned w64 c.args.a.now.z = search rules in
    leg_is c.args.bands.now c.args.number c.args.fix.now c.args.a.now c.band_at.result c.seconds_of-seconds.result c.requires.fix_kept c.requires.place_kept
    (to_z-of_z w64 c.args.a.now.z height) kept c.band_at.ensures c.seconds_of-seconds.ensures
