use Rattle.std.proofs.Common.{refl}
use Rattle.mt_track.proofs.Bits.{fits_32, narrow_is, reach_is}
use Rattle.mt_track.proofs.units.narrow.Goals as goal

pub overflow_cast-result : goal.overflow_cast-result
overflow_cast-result c = rw (reach_is c.args.z c.requires) (fits_32 c.args.z c.requires)

pub returns : goal.returns
returns c = narrow_is c.args.z _ c.requires refl
