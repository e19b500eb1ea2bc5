use Rattle.mt_ws.proofs.Heads.{begins}
use Rattle.mt_ws.proofs.opening.begin.Goals as goal

pub returns-in-Ok : goal.returns-in-Ok
returns-in-Ok g c =
    begins g.S.Read.remaining g.S.Write.contents c.args.stream c.read_head.new.stream _ c.in-Ok.start c.kind_by.result c.in-Ok.ensures.head c.kind_by.ensures
