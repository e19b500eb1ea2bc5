use Rattle.mt_ws.proofs.Opened.{consumes_later}
use Rattle.mt_ws.proofs.front.read_on.Goals as goal

pub returns-in-Ok-clause-bytes : goal.returns-in-Ok-clause-bytes
returns-in-Ok-clause-bytes g c = (consumes_later _ _ _ _ c.loop.invariant.1 c.in-Ok.ensures.bytes.0, c.in-Ok.ensures.bytes.1)
