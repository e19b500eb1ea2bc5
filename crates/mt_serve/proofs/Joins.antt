-- Seats joined, one by one.
use Rattle.std.proofs.Common.{Bool, ◌≡◌, ◌<◌, ◌≤◌, ◌+◌, ◌^◌, List, [], ◌∷◌, ◌++◌, length, All, refl, sym, ap, ◌∙◌, subst, append-nil, length-append, arith}
use Rattle.std.proofs.lemmas.List.Elements.{All-push}
use Rattle.mt_base.specs.Tables.{Setup}
use Rattle.mt_desk.specs.Desk.{Desk, IsSeatOfDesk}
use Rattle.mt_io.specs.declared.source.Source as Source
use Rattle.mt_io.specs.declared.sink.Sink as Sink
use Rattle.mt_turn.specs.declared.view.Phase.TheVariants.{Idle}
use Rattle.mt_turn.specs.declared.view.View.{View}
use Rattle.mt_turn.specs.Seats.{SeatNow}
use Rattle.mt_turn.specs.Views.{taker}
use Rattle.mt_base.specs.declared.command.Entry.{Entry}
use Rattle.mt_io.specs.Door.{took_one}
use Rattle.mt_session.specs.declared.outcome.Outcome.{Outcome}
use Rattle.mt_serve.specs.Sitting.{SessionRun}
use Rattle.mt_serve.specs.Private.Working.{rests_of}
use Rattle.mt_serve.specs.Working.{HasWorkedInSeat, IsRested, Worked}
use Rattle.mt_serve.specs.Serving.{HasServed}
use Rattle.mt_serve.specs.Private.Seating.{HasJoined, views_of}
use Rattle.mt_serve.specs.declared.counts.Counts.{Counts}
use Rattle.mt_serve.specs.Summary.{counted}
use Rattle.mt_serve.specs.Private.Summary.{no_counts, with_outcome}
use Rattle.mt_serve.proofs.Counting.{counted_more}
use Rattle.mt_serve.specs.Tied.{Doorway, backs_of}
use Rattle.mt_serve.specs.Private.Tied.{AreOver, HasTakenBack, ends_of}
use Rattle.mt_serve.specs.Private.Joining.{JoinsSeats, JoinsWorkers, JoinsSessions}
use Rattle.mt_serve.proofs.Accepts.{map_push, length_push, moved_on, all_moved, gains_none, gains_on}
use Rattle.mt_serve.proofs.Seats.{joined_none, joined_more}

pub seats_more : (desk : Desk) (v w w' : View Entry Setup) (all rest rest' : List (SeatNow Entry Setup)) (x : SeatNow Entry Setup)
    → JoinsSeats desk v w all rest → rest ≡ x ∷ rest' → w' ≡ taker w x.view → JoinsSeats desk v w' all rest'
seats_more desk v w w' all rest rest' x so front takes = record {
  past = so.past ++ x ∷ [];
  parts = moved_on all so.past rest (so.past ++ x ∷ []) rest' x x so.parts front refl refl;
  joined = subst (HasJoined v w') (sym (map_push (λ (s : SeatNow Entry Setup). s.view) so.past x)) (joined_more v w w' (views_of so.past) x.view so.joined takes);
  ready = all_moved (IsSeatOfDesk desk) x rest' rest so.ready front;
}

pub workers_more : (desk : Desk) (v w w' : View Entry Setup) (all rest rest' : List Worked) (x y : Worked)
    → JoinsWorkers desk v w all rest → rest ≡ y ∷ rest' → x ≡ y → w' ≡ taker w x.seat.view → HasWorkedInSeat x.from x.seat → JoinsWorkers desk v w' all rest'
workers_more desk v w w' all rest rest' x y so front same takes worked = record {
  past = so.past ++ x ∷ [];
  parts = moved_on all so.past rest (so.past ++ x ∷ []) rest' y x so.parts front refl same;
  joined =
      subst (HasJoined v w')
      (sym (ap views_of (map_push (λ (z : Worked). z.seat) so.past x) ∙ map_push (λ (s : SeatNow Entry Setup). s.view) (rests_of so.past) x.seat))
      (joined_more v w w' (views_of (rests_of so.past)) x.seat.view so.joined takes);
  ready = all_moved (λ (z : Worked). IsSeatOfDesk desk z.from) y rest' rest so.ready front;
  worked = All-push IsRested so.past x so.worked worked;
}

-- no link came back
taken_none : {L : Type 0} (d : Doorway L) → HasTakenBack d d []
taken_none d = record {
  count =
      let same : d.count.back + 0 ≡ d.count.back = omega arith in
      ap (λ n. record { port = d.count.port; sessions = d.count.sessions; given = d.count.given; back = n }) (sym same);
  still = refl;
  returned = gains_none d.returned;
  faults = omega arith;
}

-- one link more came back
taken_more : {L : Type 0} (a b c : Doorway L) (links : List L) (link : L) → HasTakenBack a b links → HasTakenBack b c (link ∷ []) → HasTakenBack a c (links ++ link ∷ [])
taken_more a b c links link so one = record {
  count =
      let more : a.count.back + length links + 1 ≡ a.count.back + length (links ++ link ∷ []) = omega (arith, length_push links link) in
      one.count ∙ ap took_one so.count ∙ ap (λ n. record { port = a.count.port; sessions = a.count.sessions; given = a.count.given; back = n }) more;
  still = one.still ∙ so.still;
  returned = gains_on a.returned b.returned c.returned links (link ∷ []) so.returned one.returned;
  faults = omega (arith, so.faults, one.faults);
}

module _ {L : Type 0} (source : Source.Ghosts L) (sink : Sink.Ghosts L) where
  pub sessions_none : (desk : Desk) (v : View Entry Setup) (all : List (SessionRun L)) (d : Doorway L) (counts : Counts) → v.phase ≡ Idle
      → All (λ (x : SessionRun L). IsSeatOfDesk desk x.from.seat) all → counts ≡ no_counts → JoinsSessions source sink desk v v all all d d counts
  sessions_none desk v all d counts idle ready none = record {
    past = [];
    parts = refl;
    joined = joined_none v idle;
    ready = ready;
    served = λ k d below. absurd (omega arith);
    door = taken_none d;
    counts_are = none;
  }

  pub sessions_more : (desk : Desk) (v w w' : View Entry Setup) (all rest rest' : List (SessionRun L)) (d e f : Doorway L) (counts counts' : Counts) (x y : SessionRun L)
      → JoinsSessions source sink desk v w all rest d e counts → rest ≡ y ∷ rest' → x ≡ y → w' ≡ taker w x.seat.view
      → HasServed source sink x.from.link x.from.seat x.from.has_channel x.link x.seat x.outcome → HasTakenBack e f (x.link ∷ []) → counts' ≡ with_outcome x.outcome counts
      → JoinsSessions source sink desk v w' all rest' d f counts'
  sessions_more desk v w w' all rest rest' d e f counts counts' x y so front same takes served took more_counts = record {
    past = so.past ++ x ∷ [];
    parts = moved_on all so.past rest (so.past ++ x ∷ []) rest' y x so.parts front refl same;
    joined =
        subst (HasJoined v w')
        (sym (ap views_of (map_push (λ (z : SessionRun L). z.seat) so.past x) ∙ map_push (λ (s : SeatNow Entry Setup). s.view) (ends_of so.past) x.seat))
        (joined_more v w w' (views_of (ends_of so.past)) x.seat.view so.joined takes);
    ready = all_moved (λ (z : SessionRun L). IsSeatOfDesk desk z.from.seat) y rest' rest so.ready front;
    served = All-push (λ (m : SessionRun L). HasServed source sink m.from.link m.from.seat m.from.has_channel m.link m.seat m.outcome) so.past x so.served served;
    door = subst (HasTakenBack d f) (sym (map_push (λ (z : SessionRun L). z.link) so.past x)) (taken_more d e f (backs_of so.past) x.link so.door took);
    counts_are = more_counts ∙ ap (with_outcome x.outcome) so.counts_are ∙ sym (counted_more so.past x);
  }

  pub sessions_over : (desk : Desk) (v w : View Entry Setup) (all rest : List (SessionRun L)) (d e : Doorway L) (counts : Counts)
      → JoinsSessions source sink desk v w all rest d e counts → rest ≡ [] → AreOver source sink all
  sessions_over desk v w all rest d e counts so none =
      subst (AreOver source sink) (sym (so.parts ∙ ap (λ zs. so.past ++ zs) none ∙ append-nil so.past)) so.served

  pub counts_over : (desk : Desk) (v w : View Entry Setup) (all rest : List (SessionRun L)) (d e : Doorway L) (counts : Counts)
      → JoinsSessions source sink desk v w all rest d e counts → rest ≡ [] → counts ≡ counted all
  counts_over desk v w all rest d e counts so none = so.counts_are ∙ ap counted (sym (so.parts ∙ ap (λ zs. so.past ++ zs) none ∙ append-nil so.past))

  -- there is room for one more in the counts
  pub counts_room : (desk : Desk) (v w : View Entry Setup) (all rest rest' : List (SessionRun L)) (d e : Doorway L) (counts : Counts) (y : SessionRun L)
      → JoinsSessions source sink desk v w all rest d e counts → rest ≡ y ∷ rest' → length all ≤ 2 ^ 31 → counts.sessions < 2 ^ 32
  counts_room desk v w all rest rest' d e counts y so front few =
      let count : counts.sessions ≡ length so.past = ap (λ (k : Counts). k.sessions) so.counts_are in
      let parts : length all ≡ length so.past + length rest = ap (λ (xs : List (SessionRun L)). length xs) so.parts ∙ length-append so.past rest in
      omega (arith, count, parts, few)

  -- a session that is over leaves a seat of the desk that it got one of
  pub done_ready : (desk : Desk) (a : L) (before : SeatNow Entry Setup) (has_channel : Bool) (b : L) (after : SeatNow Entry Setup) (outcome : Outcome)
      → HasServed source sink a before has_channel b after outcome → IsSeatOfDesk desk before → IsSeatOfDesk desk after
  done_ready desk a before has_channel b after outcome served ready = record {
    home_is = served.home ∙ ready.home_is;
    idle = served.idle;
    fixed_is = served.same.3 ∙ ready.fixed_is;
  }
