use Rattle.std.proofs.Common.{ℤ, pos, take, All}
use Rattle.mt_base.specs.Bounds.{IsWithin}
use Rattle.mt_predict.proofs.Layers.{IsOnOneSide}
use Rattle.mt_predict.proofs.steady.layer_around.Given as goal

abbrev pub invariant-loop-band : goal.invariant-loop-band
invariant-loop-band l = record {
  lowest : IsWithin (pos 0) l.z l.layer.lowest;
  highest : IsWithin l.z (pos 3600000) l.layer.highest;
  same : (h : ℤ) → IsWithin l.layer.lowest l.layer.highest h → All (IsOnOneSide l.z h) (take l.band-index l.bands);
}
