use Rattle.std.proofs.Common.{subst, sym, ap, length, arith}
use Rattle.mt_serve.specs.Private.Seating.{HasSplit}
use Rattle.mt_serve.proofs.Accepts.{length_push}
use Rattle.mt_serve.proofs.Seats.{split_more, gave_more}
use Rattle.mt_serve.proofs.seating.split_all.Goals as goal

pub loop-preserved : goal.loop-preserved
loop-preserved c =
    let was = c.loop.invariant in let push = c.push_back_reserved.ensures.items in
    let more = split_more c.args.desk.now c.args.first.now.view c.loop.first.view c.split-seat.new.seat.view c.loop.seats.items c.split-seat.result was.0 c.split-seat.ensures.gives c.split-seat.ensures.comes c.split-seat.ensures.ready.1 in (
      subst (λ seats. HasSplit c.args.desk.now c.args.first.now.view c.split-seat.new.seat.view seats) (sym push) more,
      c.split-seat.ensures.ready.0,
      omega (arith, ap length push, length_push c.loop.seats.items c.split-seat.result, was.2),
      omega (arith, c.push_back_reserved.ensures.len, was.3),
      omega (arith, c.push_back_reserved.ensures.capacity, was.4),
      omega (arith, gave_more c.loop.first.view c.split-seat.new.seat.view c.split-seat.ensures.gives, was.5),
    )
