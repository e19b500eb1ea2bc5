use Rattle.std.proofs.Common.{◌≡◌, ◌<◌, ◌≤◌, ◌+◌, ◌-◌, List, [], ◌∷◌, ◌++◌, length, sym, ap, ◌∙◌, subst, append-nil, length-append, rules, arith}
use Rattle.mt_base.specs.Tables.{Setup}
use Rattle.mt_base.specs.declared.command.Entry.{Entry}
use Rattle.mt_desk.specs.Desk.{Desk, IsSeatOfDesk}
use Rattle.mt_io.specs.Door.{Count}
use Rattle.mt_io.specs.declared.source.Source as Source
use Rattle.mt_io.specs.declared.sink.Sink as Sink
use Rattle.mt_turn.specs.declared.view.View.{View}
use Rattle.mt_serve.specs.declared.counts.Counts.{Counts}
use Rattle.mt_serve.specs.Private.Joining.{JoinsSessions}
use Rattle.mt_serve.specs.Private.Seating.{HasJoined, views_of}
use Rattle.mt_serve.specs.Sitting.{SessionRun}
use Rattle.mt_serve.specs.Tied.{Doorway, backs_of}
use Rattle.mt_serve.specs.Private.Tied.{HasTakenBack, ends_of}
use Rattle.mt_serve.proofs.Accepts.{all_front}
use Rattle.mt_serve.proofs.Joins.{done_ready, sessions_none, sessions_more, sessions_over, counts_over, counts_room}
use Rattle.mt_serve.proofs.Counting.{counted_parts}
use Rattle.mt_serve.proofs.Seats.{length_map}
use Rattle.mt_serve.proofs.seating.join_sessions.Goals as goal

module _ {L : Type 0} (source : Source.Ghosts L) (sink : Sink.Ghosts L) where
  module _ (desk : Desk) (v w : View Entry Setup) (all rest : List (SessionRun L)) (d e : Doorway L) (counts : Counts) (so : JoinsSessions source sink desk v w all rest d e counts) where
    past_is : rest ≡ [] → so.past ≡ all
    past_is none = sym (so.parts ∙ ap (λ zs. so.past ++ zs) none ∙ append-nil so.past)

    joined_over : rest ≡ [] → HasJoined v w (views_of (ends_of all))
    joined_over none = subst (λ ms. HasJoined v w (views_of (ends_of ms))) (past_is none) so.joined

    taken_over : rest ≡ [] → HasTakenBack d e (backs_of all)
    taken_over none = subst (λ ms. HasTakenBack d e (backs_of ms)) (past_is none) so.door

  -- where a session is left, so is a link
  link_out : (desk : Desk) (v w : View Entry Setup) (all rest rest' : List (SessionRun L)) (d e : Doorway L) (counts : Counts) (y : SessionRun L)
      → JoinsSessions source sink desk v w all rest d e counts → rest ≡ y ∷ rest' → length all ≤ d.count.given - d.count.back → e.count.back < e.count.given
  link_out desk v w all rest rest' d e counts y so front few =
      let past : length (backs_of so.past) ≡ length so.past = length_map (λ (m : SessionRun L). m.link) so.past in
      let kept : e.count.back ≡ d.count.back + length (backs_of so.past) = ap (λ (z : Count). z.back) so.door.count in
      let given : e.count.given ≡ d.count.given = ap (λ (z : Count). z.given) so.door.count in
      let parts : length all ≡ length so.past + length rest = ap (λ (xs : List (SessionRun L)). length xs) so.parts ∙ length-append so.past rest in
      let many : length rest ≡ length (y ∷ rest') = ap (λ (xs : List (SessionRun L)). length xs) front in
      omega (arith, past, kept, given, parts, many, few)

pub loop-done-init : goal.loop-done-init
loop-done-init g c =
    (sessions_none g.D.Link.Source g.D.Link.Sink c.args.desk.now c.args.first.now.view c.args.dones.items _ _ c.requires.ready.idle c.requires.others c.none-counts.ensures, c.requires.ready)

pub loop-done-preserved : goal.loop-done-preserved
loop-done-preserved g c =
    let x : SessionRun g.row.D-Link.Denot = record { from = record { link = c.done.inside.given.link.value; seat = c.done.inside.given.seat.value; has_channel = c.done.inside.given.has_channel }; link = c.done.inside.back.link; seat = c.done.inside.back.seat; outcome = c.done.inside.back.outcome } in
    let was = c.loop-done.invariant in (
      sessions_more g.D.Link.Source g.D.Link.Sink _ _ _ _ _ _ _ _ _ _ _ _ x c.in-Some.done was.0 c.in-Some.ensures.items c.done.view_is c.join_session.ensures.joins c.done.invariant c.join_session.ensures.door c.join_session.ensures.counted,
      c.join_session.ensures.ready,
    )

pub returns-clause-served : goal.returns-clause-served
returns-clause-served g c = sessions_over g.D.Link.Source g.D.Link.Sink _ _ _ _ _ _ _ _ c.loop-done.invariant.0 (search rules)

pub returns-clause-counted : goal.returns-clause-counted
returns-clause-counted g c = counts_over g.D.Link.Source g.D.Link.Sink _ _ _ _ _ _ _ _ c.loop-done.invariant.0 (search rules)

pub returns-clause-joined : goal.returns-clause-joined
returns-clause-joined g c = joined_over g.D.Link.Source g.D.Link.Sink _ _ _ _ _ _ _ _ c.loop-done.invariant.0 (search rules)

pub returns-clause-door : goal.returns-clause-door
returns-clause-door g c = taken_over g.D.Link.Source g.D.Link.Sink _ _ _ _ _ _ _ _ c.loop-done.invariant.0 (search rules)

pub join_session-requires-clause-first : goal.join_session-requires-clause-first
join_session-requires-clause-first g c κs within = c.loop-done.invariant.0.joined.number ∙ c.requires.first

pub join_session-requires-clause-other : goal.join_session-requires-clause-other
join_session-requires-clause-other g c κs within =
    let y : SessionRun g.row.D-Link.Denot = record { from = record { link = c.done.inside.given.link.value; seat = c.done.inside.given.seat.value; has_channel = c.done.inside.given.has_channel }; link = c.done.inside.back.link; seat = c.done.inside.back.seat; outcome = c.done.inside.back.outcome } in
    let from = all_front (λ (m : SessionRun g.row.D-Link.Denot). IsSeatOfDesk c.args.desk.now m.from.seat) c.in-Some.done _ _ c.loop-done.invariant.0.ready c.in-Some.ensures.items in
    done_ready g.D.Link.Source g.D.Link.Sink c.args.desk.now y.from.link y.from.seat y.from.has_channel y.link y.seat y.outcome c.done.invariant
    (subst (λ (m : SessionRun g.row.D-Link.Denot). IsSeatOfDesk c.args.desk.now m.from.seat) (sym c.done.view_is) from)

pub join_session-requires-clause-given : goal.join_session-requires-clause-given
join_session-requires-clause-given g c κs within =
    link_out g.D.Link.Source g.D.Link.Sink _ _ _ _ _ _ _ _ _ _ c.loop-done.invariant.0 c.in-Some.ensures.items c.requires.given

pub join_session-requires-clause-room : goal.join_session-requires-clause-room
join_session-requires-clause-room g c κs within =
    counts_room g.D.Link.Source g.D.Link.Sink _ _ _ _ _ _ _ _ _ _ c.loop-done.invariant.0 c.in-Some.ensures.items c.requires.few

pub join_session-requires-clause-parts : goal.join_session-requires-clause-parts
join_session-requires-clause-parts g c κs within = counted_parts _ _ c.loop-done.invariant.0.counts_are
