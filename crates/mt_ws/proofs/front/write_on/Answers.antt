use Rattle.mt_ws.proofs.Opened.{appends_later}
use Rattle.mt_ws.proofs.front.write_on.Goals as goal

pub returns-in-Ok-clause-bytes : goal.returns-in-Ok-clause-bytes
returns-in-Ok-clause-bytes g c = appends_later _ _ _ _ c.loop.invariant c.in-Ok.ensures.bytes
