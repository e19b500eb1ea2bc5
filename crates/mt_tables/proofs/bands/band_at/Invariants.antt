use Rattle.std.proofs.Common.{◌≡◌, ◌-◌, ◌<◌, drop, length}
use Rattle.mt_base.specs.Predictor.{band_at}
use Rattle.mt_tables.proofs.bands.band_at.Given as goal

abbrev pub invariant-loop-i : goal.invariant-loop-i
invariant-loop-i l = record {
  some : l.i < length l.bands;
  same : band_at l.bands l.z ≡ band_at (drop l.i l.bands) l.z;
}

abbrev pub decreases-loop-i : goal.decreases-loop-i
decreases-loop-i l = length l.bands - l.i
