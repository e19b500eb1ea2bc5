use Rattle.mt_top.proofs.Served.{asked_is, served_replied}
use Rattle.mt_top.proofs.answering.answer.Goals as goal

pub returns-in-Ok-clause-replied : goal.returns-in-Ok-clause-replied
returns-in-Ok-clause-replied g c =
    served_replied c.args.script.now c.serve.new.self c.args.line.now c.in-Ok.who c.in-Ok.request c.serve.result c.requires
    (asked_is c.args.script.now c.args.line.now (c.in-Ok.who, c.in-Ok.request) c.requires (rw c.rules.ensures.rules at c.in-Ok.ensures.exact))
    c.serve.ensures.served
