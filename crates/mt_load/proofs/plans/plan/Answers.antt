use Rattle.mt_load.proofs.PlanLemmas.{four_are, plan_is}
use Rattle.mt_load.proofs.plans.plan.Goals as goal

pub returns-in_err-route-clause-draws : goal.returns-in_err-route-clause-draws
returns-in_err-route-clause-draws c =
    (four_are c.args.draws.now c.draw-first.new.self c.draw.new.self c.draw-2.new.self c.draw-at.new.self
    c.draw-first.ensures.state c.draw.ensures.state c.draw-2.ensures.state c.draw-at.ensures.state).fourth_is

pub returns-clause-draws : goal.returns-clause-draws
returns-clause-draws c =
    (four_are c.args.draws.now c.draw-first.new.self c.draw.new.self c.draw-2.new.self c.draw-at.new.self
    c.draw-first.ensures.state c.draw.ensures.state c.draw-2.ensures.state c.draw-at.ensures.state).fourth_is

pub returns-clause-plan : goal.returns-clause-plan
returns-clause-plan c =
    let four = four_are c.args.draws.now c.draw-first.new.self c.draw.new.self c.draw-2.new.self c.draw-at.new.self
    c.draw-first.ensures.state c.draw.ensures.state c.draw-2.ensures.state c.draw-at.ensures.state in
    plan_is c.args.number c.args.draws.now c.draw-first.new.self c.draw.new.self c.draw-2.new.self c.draw-at.new.self
    c.draw-first.result c.draw.result c.other_than-second.result c.draw-2.result c.draw-at.result
    c.callsign.result c.kind_name.result c.in_ok-route.field-0 four
    c.draw-first.ensures.value c.draw.ensures.value c.draw-2.ensures.value c.draw-at.ensures.value c.other_than-second.ensures.value
    c.callsign.ensures c.kind_name.ensures c.in_ok-route.ensures
