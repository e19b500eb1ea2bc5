use Rattle.std.proofs.lemmas.Result.{err_from_is_err_and}
use Rattle.mt_board.specs.BoardSeat.{BoardSeat}
use Rattle.mt_board.proofs.SeatLemmas.{change_on}
use Rattle.mt_desk.specs.Desk.{seat_of}
use Rattle.mt_desk.proofs.Answered.{given_taken, not_prepared}
use Rattle.mt_desk.proofs.Histories.{asked_bounded, asked_free, asked_in_time}
use Rattle.mt_desk.proofs.Turning.{same_views}
use Rattle.mt_desk.proofs.board.change_prepared.Goals as goal

pub returns-in_err-prep-clause-changed : goal.returns-in_err-prep-clause-changed
returns-in_err-prep-clause-changed g c =
    let t : BoardSeat = seat_of c.args.desk.now.fixed c.take.new.seat.view in
    let e = not_prepared (seat_of c.args.desk.now.fixed c.args.seat.now.view) t c.in_ok-snapshot.snapshot c.args.command.now c.in_err-prep.field-0.0
    c.take.ensures.seen c.in_ok-snapshot.ensures.taken c.requires.makes (rw c.number-who.ensures at c.in_err-prep.ensures.refused) in
    let p = err_from_is_err_and c.from_residual-in_err-prep.result c.from_residual-in_err-prep.ensures.1 in
    rw (p.1, p.2) e

pub publish-requires-clause-prepared : goal.publish-requires-clause-prepared
publish-requires-clause-prepared g c κs within =
    let t : BoardSeat = seat_of c.args.desk.now.fixed c.take.new.seat.view in
    given_taken t c.in_ok-snapshot.snapshot t.number c.args.command.now c.in_ok-prep.prep c.in_ok-snapshot.ensures.taken c.requires.makes
    (rw c.number-who.ensures at c.in_ok-prep.ensures.prep)

pub returns-clause-changed : goal.returns-clause-changed
returns-clause-changed g c =
    let t : BoardSeat = seat_of c.args.desk.now.fixed c.take.new.seat.view in
    change_on (seat_of c.args.desk.now.fixed c.args.seat.now.view) t _ c.args.command.now c.publish.result c.take.ensures.seen.looked c.publish.ensures.changed

pub returns-in_err-snapshot-clause-ready : goal.returns-in_err-snapshot-clause-ready
returns-in_err-snapshot-clause-ready g c = c.take.ensures.ready

pub returns-in_err-snapshot-clause-same : goal.returns-in_err-snapshot-clause-same
returns-in_err-snapshot-clause-same g c = c.take.ensures.same

pub returns-in_err-prep-clause-ready : goal.returns-in_err-prep-clause-ready
returns-in_err-prep-clause-ready g c = c.take.ensures.ready

pub returns-in_err-prep-clause-same : goal.returns-in_err-prep-clause-same
returns-in_err-prep-clause-same g c = c.take.ensures.same

pub publish-requires-clause-ready : goal.publish-requires-clause-ready
publish-requires-clause-ready g c κs within = c.take.ensures.ready

pub publish-requires-clause-bounded : goal.publish-requires-clause-bounded
publish-requires-clause-bounded g c κs within = asked_bounded c.args.command.now c.requires.bounded

pub publish-requires-clause-in_time : goal.publish-requires-clause-in_time
publish-requires-clause-in_time g c κs within = asked_in_time _ c.args.command.now c.requires.asked_for

pub publish-requires-clause-free : goal.publish-requires-clause-free
publish-requires-clause-free g c κs within = asked_free _ _ c.args.command.now c.requires.asked_for

pub returns-clause-ready : goal.returns-clause-ready
returns-clause-ready g c = c.publish.ensures.ready

pub returns-clause-same : goal.returns-clause-same
returns-clause-same g c = same_views c.args.seat.now.view c.take.new.seat.view c.publish.new.seat.view c.take.ensures.same c.publish.ensures.same
