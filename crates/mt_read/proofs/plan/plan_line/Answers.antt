use Rattle.std.proofs.Common.{unwrap_or, ◌∙◌}
use Rattle.mt_base.specs.declared.command.Command.TheVariants as command
use Rattle.mt_read.proofs.ReadingLemmas.{asked, ◌▹◌}
use Rattle.mt_read.proofs.plan.plan_line.Goals as goal

pub returns : goal.returns
returns c =
    asked (c.callsign-call.ensures ▹ c.type_name-kind.ensures ▹ c.in_ok-route.ensures ▹ c.count-at.ensures.reads ▹ c.count_or_none-from.ensures
    ▹ c.count-level.ensures.reads ▹ c.approval-rvsm.ensures) (λ ms e. (λ i. command.Plan c.callsign-call.result c.type_name-kind.result
    c.in_ok-route.route c.count-at.result (c.unwrap_or.ensures i) c.count-level.result c.approval-rvsm.result) ∙ (λ i. command.Plan (e i).0 (e
    i).1.0 (e i).1.1.0 (e i).1.1.1.0 (unwrap_or (e i).1.1.1.1.0 (e i).1.1.1.1.1.0) (e i).1.1.1.1.1.0 (e i).1.1.1.1.1.1))
