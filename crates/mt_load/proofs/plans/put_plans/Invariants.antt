use Rattle.std.proofs.Common.{◌≡◌, ◌*◌, ◌++◌}
use Rattle.mt_load.specs.Draws.{state_after}
use Rattle.mt_load.specs.Input.{each_below, plan_of}
use Rattle.mt_load.proofs.plans.put_plans.Given as goal

abbrev pub invariant-loop-flight : goal.invariant-loop-flight
invariant-loop-flight l = (l.draws ≡ state_after (4 * l.flight) l.number) × (l.list.items ≡ l.fn.list.items ++ each_below (plan_of l.number) l.flight)
