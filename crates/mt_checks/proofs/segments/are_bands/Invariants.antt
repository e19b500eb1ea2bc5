use Rattle.std.proofs.Common.{All, take}
use Rattle.mt_base.specs.Bounds.{IsBoundedBand}
use Rattle.mt_checks.proofs.segments.are_bands.Given as goal

abbrev pub invariant-loop-band : goal.invariant-loop-band
invariant-loop-band l = All IsBoundedBand (take l.band-index l.bands)
