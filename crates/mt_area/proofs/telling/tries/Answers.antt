use Rattle.std.proofs.Common.{◌≡◌, ℕ, ◌+◌, ◌∙◌, ap, drop, length, arith}
use Rattle.std.proofs.lemmas.List.{length_push, take_at}
use Rattle.std.proofs.lemmas.Result.{IfOk-from_err}
use Rattle.mt_area.proofs.telling.tries.Goals as goal

-- the places are as many as the trajectories, so what is after them is nothing
pub returns-clause-each : goal.returns-clause-each
returns-clause-each g c =
    let many : length c.tell_each.new.tries ≡ c.loop.tries.len =
    omega (arith, c.tell_each.ensures.len, c.loop.invariant, c.loop.tries.ok.0, c.loop.auto.counter-end, c.loop-test.false) in
    rw (take_at c.tell_each.new.tries (drop (length c.tell_each.new.tries) c.loop.tries.items) c.loop.tries.len many) c.tell_each.ensures.each

pub loop-init : goal.loop-init
loop-init g c = ap length c.new-tries.ensures.items

pub loop-preserved : goal.loop-preserved
loop-preserved g c = ap length c.in_ok-push.ensures.items ∙ length_push c.loop.tries.items _ ∙ ap (λ (n : ℕ). n + 1) c.loop.invariant

pub returns-in_err-push-clause-each : goal.returns-in_err-push-clause-each
returns-in_err-push-clause-each g c = IfOk-from_err c.from_residual.result _ c.from_residual.ensures.0
