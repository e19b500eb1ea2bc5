use Rattle.std.proofs.Common.{◌∙◌, ap}
use Rattle.mt_read.specs.declared.request.Request.TheVariants.{Change}
use Rattle.mt_load.specs.Input.{plan_from, plan_of}
use Rattle.mt_load.proofs.DrawLemmas.{four_more, none}
use Rattle.mt_load.proofs.Lists.{each_more, each_none}
use Rattle.mt_load.proofs.plans.put_plans.Goals as goal

pub loop-flight-init : goal.loop-flight-init
loop-flight-init c =
    (none c.args.number c.from-draws.result c.from-draws.ensures, each_none (plan_of c.args.number) c.args.list.now.items)

pub loop-flight-preserved : goal.loop-flight-preserved
loop-flight-preserved c =
    let flight = c.loop-flight.flight in (
      four_more flight c.args.number c.loop-flight.draws c.plan.new.draws c.loop-flight.invariant.0 c.plan.ensures.draws,
      each_more (plan_of c.args.number) flight c.args.list.now.items c.loop-flight.list.items c.push.new.self.items (Change c.in_ok-plan.field-0)
          c.loop-flight.invariant.1 (ap Change (c.in_ok-plan.ensures.plan ∙ ap (plan_from flight) c.loop-flight.invariant.0)) c.in_ok-push.ensures.items,
    )
