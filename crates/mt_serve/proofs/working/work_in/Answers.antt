use Rattle.mt_serve.proofs.Renewals.{worked_as}
use Rattle.mt_serve.proofs.working.work_in.Goals as goal

pub returns-clause-seat : goal.returns-clause-seat
returns-clause-seat g c =
    worked_as c.args.desk.now c.args.seat c.back.result c.hand.result c.work-hand.result.0 _ c.requires.ready c.hand.ensures c.back.ensures.seat
    c.back.ensures.ready c.work-hand.ensures.worked c.work-hand.ensures.on c.work-hand.ensures.home

pub returns-clause-over : goal.returns-clause-over
returns-clause-over g c = c.work-hand.ensures.over
