use Rattle.std.proofs.Common.{refl}
use Rattle.mt_predict.proofs.judging.has_room.Goals as goal

pub returns : goal.returns
returns c = rw (c.is_fewer.ensures, c.from.ensures) refl
