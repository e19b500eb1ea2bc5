use Rattle.std.proofs.Common.{◌≡◌, drop, length, arith}
use Rattle.std.proofs.lemmas.List.{take_at}
use Rattle.mt_snapshot.proofs.trying.tries.Goals as goal

-- the places are as many as the candidates, so what is after them is nothing
pub returns-clause-each : goal.returns-clause-each
returns-clause-each g c =
    let many : length c.try_each.new.tries ≡ c.loop.tries.len =
    omega (arith, c.try_each.ensures.len, c.loop.invariant, c.loop.tries.ok.0, c.loop.auto.counter-end, c.loop-test.false) in
    rw (take_at c.try_each.new.tries (drop (length c.try_each.new.tries) c.loop.tries.items) c.loop.tries.len many) c.try_each.ensures.each
