-- The bounds of what flies.
use Rattle.std.proofs.Common.{◌*◌, true, false, ℤ, pos, List, [], ◌∷◌, All, int_le, if◌then◌else◌, arith}
use Rattle.std.proofs.lemmas.List.Elements.{All-head, All-tail}
use Rattle.mt_base.specs.declared.band.Band.{Band}
use Rattle.mt_base.specs.Bounds.{AreBoundedBands, IsBoundedBand}
use Rattle.mt_base.specs.Predictor.{band_at}

-- the band of a height is one of the bands
each_kept : (b : Band) (bands : List Band) (z : ℤ) → All IsBoundedBand (b ∷ bands) → IsBoundedBand (band_at (b ∷ bands) z)
each_kept b [] z each = All-head IsBoundedBand b [] each
each_kept b (c ∷ bands) z each =
    elim (int_le z (pos (6000 * b.top))) as (λ t. IsBoundedBand (if t then b else band_at (c ∷ bands) z)) [
      | true ↦ All-head IsBoundedBand b (c ∷ bands) each
      | false ↦ each_kept c bands z (All-tail IsBoundedBand b (c ∷ bands) each)
    ]

pub band_kept : (bands : List Band) (z : ℤ) → AreBoundedBands bands → IsBoundedBand (band_at bands z)
band_kept [] z kept = absurd (omega (arith, kept.some))
band_kept (b ∷ bands) z kept = each_kept b bands z kept.each
