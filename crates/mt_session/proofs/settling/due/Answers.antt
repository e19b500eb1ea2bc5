use Rattle.std.proofs.Common.{refl, arith}
use Rattle.mt_session.proofs.settling.due.Goals.{in_default-via-in-Ok+in_default, in_default-via-in_default}
use Rattle.mt_session.proofs.settling.due.Goals as goal

pub returns : goal.returns
returns c = elim c.in_default.branch [ in_default-via-in-Ok+in_default w ↦ grind (arith, c.in_default.same_variant) | in_default-via-in_default w ↦ rw w.in_default.is refl ]
