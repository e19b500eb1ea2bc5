use Rattle.mt_area.proofs.Tellings.{all_ordered}
use Rattle.mt_area.proofs.telling.pierced.Goals as goal

pub returns : goal.returns
returns g c =
    rw (← c.items.ensures.items, ← c.items-2.ensures.items)
    (all_ordered c.args.now c.items-2.result.now c.items.result.now c.in_ok-tries.tries.items c.in_ok-found.found c.order.new.self c.in_ok-tries.ensures.len c.in_ok-tries.ensures.each
    c.in_ok-found.ensures c.order.ensures.same c.order.ensures.sorted)
