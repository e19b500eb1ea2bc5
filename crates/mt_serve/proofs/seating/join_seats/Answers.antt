use Rattle.mt_serve.proofs.Joins.{seats_more}
use Rattle.mt_serve.proofs.seating.join_seats.Goals as goal

pub loop-seat-preserved : goal.loop-seat-preserved
loop-seat-preserved c =
    (seats_more _ _ _ _ _ _ _ c.in-Some.seat c.loop-seat.invariant.0 c.in-Some.ensures.items c.join.ensures.joins, c.join.ensures.ready)
