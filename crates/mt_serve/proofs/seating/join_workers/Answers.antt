use Rattle.std.specs.Prelude.{is_some}
use Rattle.mt_serve.specs.Working.{Worked}
use Rattle.mt_serve.proofs.Joins.{workers_more}
use Rattle.mt_serve.proofs.seating.join_workers.Goals as goal

pub loop-rested-preserved : goal.loop-rested-preserved
loop-rested-preserved c =
    let x : Worked = record { from = c.rested.inside.given.seat.value; seat = c.rested.inside.seat; has_worked = is_some c.rested.inside.jobs } in
    (workers_more _ _ _ _ _ _ _ x c.in-Some.rested c.loop-rested.invariant.0 c.in-Some.ensures.items c.rested.view_is c.join.ensures.joins c.rested.invariant.0, c.join.ensures.ready)

pub loop-rested-preserved-in-Some : goal.loop-rested-preserved-in-Some
loop-rested-preserved-in-Some c =
    let x : Worked = record { from = c.rested.inside.given.seat.value; seat = c.rested.inside.seat; has_worked = is_some c.rested.inside.jobs } in
    (workers_more _ _ _ _ _ _ _ x c.in-Some.rested c.loop-rested.invariant.0 c.in-Some.ensures.items c.rested.view_is c.join.ensures.joins c.rested.invariant.0, c.join.ensures.ready)
