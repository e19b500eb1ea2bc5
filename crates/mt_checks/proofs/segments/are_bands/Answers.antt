use Rattle.std.proofs.Common.{All, pos, subst}
use Rattle.std.proofs.lemmas.List.{take_all}
use Rattle.std.proofs.lemmas.List.Elements.{All-more}
use Rattle.mt_base.specs.Bounds.{IsBoundedBand}
use Rattle.mt_checks.proofs.segments.are_bands.Goals as goal

pub loop-band-preserved : goal.loop-band-preserved
loop-band-preserved c =
    All-more IsBoundedBand c.args.bands.now c.loop-band.band-index (record { top = 0; speed = pos 0; climb = pos 0; descent = pos 0 }) c.loop-band-test.true
    c.loop-band.invariant (c.is_band.ensures c.if-not-is_band.false)

pub returns : goal.returns
returns c = λ _. record {
  some = c.if-count-lt1.false;
  few = c.if-count-gt8.false;
  each = subst (All IsBoundedBand) (take_all _ _ c.loop-band-test.false) c.loop-band.invariant;
}
