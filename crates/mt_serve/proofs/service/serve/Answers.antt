use Rattle.std.proofs.Common.{◌++◌, ℕ, List, length, sym, ap, ◌∙◌, arith}
use Rattle.mt_io.specs.Door.{Count}
use Rattle.mt_turn.specs.declared.view.View.{View}
use Rattle.mt_turn.specs.Seats.{SeatNow}
use Rattle.mt_turn.specs.Views.{first_view}
use Rattle.mt_serve.specs.Seating.{numbers_of}
use Rattle.mt_base.specs.declared.command.Entry.{Entry}
use Rattle.mt_base.specs.Tables.{Setup}
use Rattle.mt_serve.specs.Sitting.{SessionRun, seats_of, starts_of}
use Rattle.mt_serve.specs.Tied.{doorway_of}
use Rattle.mt_serve.specs.Private.Working.{froms_of}
use Rattle.mt_serve.proofs.Whole.{few_runs, not_listened, ready_of, served_all, split_as, whole}
use Rattle.mt_serve.proofs.Seats.{length_both, length_map}
use Rattle.mt_serve.proofs.service.serve.Goals as goal

pub settle-requires-clause-split : goal.settle-requires-clause-split
settle-requires-clause-split g c κs within =
    split_as c.in-Ok.desk c.in-Ok.first.view c.split_all.new.first.view c.split_all-2.new.first.view c.split_all.new.seats.items c.split_all-2.new.seats.items _ _
    (c.in-Ok.ensures.first ∙ ap (λ (s : Setup). first_view s) (sym c.in-Ok.ensures.fixed)) c.split_all.ensures.split c.split_all-2.ensures.split
    (ap (λ ms. seats_of (starts_of ms) ++ c.split_all.new.seats.items) (sym c.in_ok-room.ensures.empty.1))
    (ap (λ ws. froms_of ws ++ c.split_all-2.new.seats.items) (sym c.in_ok-room.ensures.empty.3))

pub returns-in_default-listen-clause-served : goal.returns-in_default-listen-clause-served
returns-in_default-listen-clause-served g c =
    let door = doorway_of g.D.Door.count g.D.Door.still g.D.Door.returned g.D.Door.faults in
    whole g.D.Link.Source g.D.Link.Sink c.in-Ok.desk.fixed c.args.picture.setup _ _ _ _ _ _ _ c.settle.result.picture c.settle.result.counts
    c.in_ok-room.room.dones.items c.in-Ok.ensures.fixed c.settle.ensures.faulted c.settle.ensures.setup c.settle.ensures.legal c.settle.ensures.complete
    (not_listened g.D.Link.Source g.D.Link.Sink c.in-Ok.desk.fixed c.args.port c.args.sessions c.args.workers (door c.args.door.now) (door c.listen.new.self) (door c.settle.new.door)
    _ c.in_ok-room.room.dones.items c.in_default-listen.ensures.count c.in_default-listen.ensures.links.0
    c.in_default-listen.ensures.links.1 c.in_default-listen.ensures.cause.failed c.in_ok-room.ensures.empty.1
    c.settle.ensures.tied c.settle.ensures.door)
    c.settle.ensures.counted

pub serve_beside-left-requires-clause-served : goal.serve_beside-left-requires-clause-served
serve_beside-left-requires-clause-served g c κs within = record {
  ready = ready_of c.in-Ok.desk c.in-Ok.first.view c.split_all.new.seats.items c.split_all.ensures.split.fresh;
  seated = omega (arith, ap (λ (z : Count). z.given) c.in-Ok-listen.ensures.count, ap (λ (z : Count). z.sessions) c.in-Ok-listen.ensures.count, c.split_all.ensures.many.0);
  first = omega (arith, c.split_all.ensures.many.1, c.in_ok-room.ensures.sessions.0);
  second = omega (arith, c.split_all.ensures.many.1, c.in_ok-room.ensures.sessions.1);
  no_sitting = c.in_ok-room.ensures.empty.0;
  no_done = c.in_ok-room.ensures.empty.1;
}

pub serve_beside-left-requires-clause-staffed : goal.serve_beside-left-requires-clause-staffed
serve_beside-left-requires-clause-staffed g c κs within = record {
  ready = ready_of c.in-Ok.desk c.split_all.new.first.view c.split_all-2.new.seats.items c.split_all-2.ensures.split.fresh;
  first = omega (arith, c.split_all-2.ensures.many.1, c.in_ok-room.ensures.workers.0);
  second = omega (arith, c.split_all-2.ensures.many.1, c.in_ok-room.ensures.workers.1);
  no_working = c.in_ok-room.ensures.empty.2;
  no_rested = c.in_ok-room.ensures.empty.3;
}

pub settle-requires-2-clause-split : goal.settle-requires-2-clause-split
settle-requires-2-clause-split g c κs within =
    split_as c.in-Ok.desk c.in-Ok.first.view c.split_all.new.first.view c.split_all-2.new.first.view c.split_all.new.seats.items c.split_all-2.new.seats.items _ _
    (c.in-Ok.ensures.first ∙ ap (λ (s : Setup). first_view s) (sym c.in-Ok.ensures.fixed)) c.split_all.ensures.split c.split_all-2.ensures.split c.serve_beside-left.ensures.links.begun.seats_are c.serve_beside-left.ensures.staff.hands_are

pub settle-requires-2-clause-few : goal.settle-requires-2-clause-few
settle-requires-2-clause-few g c κs within =
    few_runs c.args.sessions c.args.workers _ _ _ _ c.split_all.new.seats.items c.serve_beside-left.result.seats.items c.serve_beside-left.result.dones.items
    c.serve_beside-left.ensures.links.begun c.split_all.ensures.many.0 c.requires.few

pub returns-clause-served : goal.returns-clause-served
returns-clause-served g c =
    let door = doorway_of g.D.Door.count g.D.Door.still g.D.Door.returned g.D.Door.faults in
    whole g.D.Link.Source g.D.Link.Sink c.in-Ok.desk.fixed c.args.picture.setup _ _ _ _ _ _ _ c.settle-2.result.picture c.settle-2.result.counts
    c.serve_beside-left.result.dones.items c.in-Ok.ensures.fixed c.settle-2.ensures.faulted c.settle-2.ensures.setup c.settle-2.ensures.legal c.settle-2.ensures.complete
    (served_all g.D.Link.Source g.D.Link.Sink c.in-Ok.desk.fixed c.args.port c.args.sessions c.args.workers c.serve_beside-left.result.resteds.items (door c.args.door.now) (door c.listen.new.self)
    (door c.serve_beside-left.new.door) (door c.settle-2.new.door) c.in-Ok.desk _ _ c.serve_beside-left.result.dones.items c.split_all.new.seats.items
    c.serve_beside-left.result.seats.items c.in-Ok-listen.ensures.count c.in-Ok-listen.ensures.links.0 c.in-Ok-listen.ensures.links.1 c.in-Ok-listen.ensures.cause.later
    c.serve_beside-left.ensures.links
    c.settle-2.ensures.tied c.settle-2.ensures.door
    c.settle-2.ensures.worked (omega (arith, c.serve_beside-left.ensures.staff.few, c.split_all-2.ensures.many.1))
    (λ none. c.serve_beside-left.ensures.channels (c.serve_beside-left.ensures.staff.staff_is ∙ none)))
    c.settle-2.ensures.counted

-- the seats
pub split_all-requires-clause-ready : goal.split_all-requires-clause-ready
split_all-requires-clause-ready g c = c.in-Ok.ensures.ready

pub split_all-requires-clause-first : goal.split_all-requires-clause-first
split_all-requires-clause-first g c = ap (λ (v : View Entry Setup). v.number) c.in-Ok.ensures.first

pub split_all-requires-clause-few : goal.split_all-requires-clause-few
split_all-requires-clause-few g c = omega (arith, ap (λ (v : View Entry Setup). length v.gave) c.in-Ok.ensures.first, c.requires.few)

pub split_all-requires-2-clause-ready : goal.split_all-requires-2-clause-ready
split_all-requires-2-clause-ready g c = c.split_all.ensures.ready

pub split_all-requires-2-clause-first : goal.split_all-requires-2-clause-first
split_all-requires-2-clause-first g c = c.split_all.ensures.split.number ∙ ap (λ (v : View Entry Setup). v.number) c.in-Ok.ensures.first

pub split_all-requires-2-clause-few : goal.split_all-requires-2-clause-few
split_all-requires-2-clause-few g c =
    omega (
      arith,
      ap (λ (ns : List ℕ). length ns) c.split_all.ensures.split.gave,
      length_both c.in-Ok.first.view.gave (numbers_of c.split_all.new.seats.items),
      length_map (λ (z : SeatNow Entry Setup). z.view.number) c.split_all.new.seats.items,
      ap (λ (v : View Entry Setup). length v.gave) c.in-Ok.ensures.first,
      c.split_all.ensures.many.0,
      c.requires.few,
    )

pub split_all-requires-clause-room : goal.split_all-requires-clause-room
split_all-requires-clause-room g c = c.in_ok-seats.ensures.capacity

pub split_all-requires-2-clause-room : goal.split_all-requires-2-clause-room
split_all-requires-2-clause-room g c = c.in_ok-hands.ensures.capacity

pub settle-requires-clause-ready : goal.settle-requires-clause-ready
settle-requires-clause-ready g c κs within = c.split_all-2.ensures.ready

pub settle-requires-clause-given : goal.settle-requires-clause-given
settle-requires-clause-given g c κs within = omega (arith, ap (λ (ds : List (SessionRun g.row.D-Link.Denot)). length ds) c.in_ok-room.ensures.empty.1)

pub settle-requires-clause-few : goal.settle-requires-clause-few
settle-requires-clause-few g c κs within = omega (arith, ap (λ (ds : List (SessionRun g.row.D-Link.Denot)). length ds) c.in_ok-room.ensures.empty.1)

pub settle-requires-2-clause-ready : goal.settle-requires-2-clause-ready
settle-requires-2-clause-ready g c κs within = c.split_all-2.ensures.ready

pub settle-requires-2-clause-given : goal.settle-requires-2-clause-given
settle-requires-2-clause-given g c κs within =
    omega (
      arith,
      c.serve_beside-left.ensures.links.begun.given,
      c.serve_beside-left.ensures.links.begun.back,
      ap (λ (z : Count). z.given) c.in-Ok-listen.ensures.count,
      ap (λ (z : Count). z.back) c.in-Ok-listen.ensures.count,
      length_map (λ (m : SessionRun g.row.D-Link.Denot). m.from) c.serve_beside-left.result.dones.items,
    )
