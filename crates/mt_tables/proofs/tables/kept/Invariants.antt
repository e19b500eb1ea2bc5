use Rattle.std.proofs.Common.{◌≡◌, take}
use Rattle.mt_tables.proofs.tables.kept.Given as goal

abbrev pub invariant-loop-band : goal.invariant-loop-band
invariant-loop-band l = l.list ≡ take l.band-index l.bands
