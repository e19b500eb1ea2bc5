-- The parts of a serve, put together.
use Rattle.std.proofs.Common.{◌≡◌, ◌≤◌, ◌+◌, ◌^◌, ◌<◌, inl, inr, ℕ, Bool, true, false, List, [], length, All, Option, refl, sym, ap, ◌∙◌, subst, length-append, arith}
use Rattle.std.specs.Prelude.{MatchBool}
use Rattle.std.proofs.lemmas.Bool.{false≢true}
use Rattle.mt_base.specs.Tables.{Setup}
use Rattle.mt_base.specs.Complete.{IsComplete}
use Rattle.mt_base.specs.History.{IsLegal}
use Rattle.mt_picture.specs.Story.{Story}
use Rattle.mt_serve.specs.declared.counts.Counts.{Counts}
use Rattle.mt_serve.specs.Summary.{HasServedWhole, counted}
use Rattle.mt_desk.specs.Desk.{Desk, IsSeatOfDesk}
use Rattle.mt_io.specs.Causes.{Rose}
use Rattle.mt_io.specs.declared.source.Source as Source
use Rattle.mt_io.specs.declared.sink.Sink as Sink
use Rattle.mt_turn.specs.declared.view.View.{View}
use Rattle.mt_turn.specs.Seats.{SeatNow}
use Rattle.mt_turn.specs.Views.{first_view}
use Rattle.mt_base.specs.declared.command.Entry.{Entry}
use Rattle.mt_io.specs.Door.{Count, LosesFront, Gains, listened}
use Rattle.mt_serve.specs.Sitting.{HaveNoChannel, SessionRun, SessionStart, starts_of, seats_of, links_of}
use Rattle.mt_serve.specs.Private.Sitting.{HasSeatedLinks, HasServedLinks, IsDoorOver}
use Rattle.mt_serve.specs.Private.Seating.{IsNewSeat, AllSplit, HasSplit}
use Rattle.mt_serve.specs.Tied.{Doorway, IsTied, HasServedAll, backs_of}
use Rattle.mt_serve.specs.Working.{IsRested, Worked, staff_of}
use Rattle.mt_serve.specs.Private.Tied.{HasTakenBack}
use Rattle.mt_serve.proofs.Accepts.{loses_none}
use Rattle.mt_serve.proofs.Seats.{length_map}
use Rattle.mt_serve.proofs.Binding.{all_split}

pub split_as : (desk : Desk) (f v w : View Entry Setup) (seats hands seats' hands' : List (SeatNow Entry Setup)) → f ≡ first_view desk.fixed → HasSplit desk f v seats → HasSplit desk v w hands
    → seats ≡ seats' → hands ≡ hands' → AllSplit desk w seats' hands'
split_as desk f v w seats hands seats' hands' new a b is is' =
    subst (λ s. AllSplit desk w s hands') is
    (subst (AllSplit desk w seats) is' (all_split desk v w seats hands (subst (λ z. HasSplit desk z v seats) new a) b))

pub ready_of : (desk : Desk) (v : View Entry Setup) (seats : List (SeatNow Entry Setup)) → All (IsNewSeat desk v) seats → All (IsSeatOfDesk desk) seats
ready_of desk v seats fresh k d below = (fresh k d below).ready

-- there are no more sessions than seats for them
pub few_runs : {L : Type 0} (sessions workers : ℕ) (old new : Count) (still left : Option (List L)) (seats rest : List (SeatNow Entry Setup)) (runs : List (SessionRun L))
    → HasSeatedLinks old new still left seats rest (starts_of runs) → length seats ≡ sessions → sessions + workers ≤ 2 ^ 31 → length runs ≤ 2 ^ 31
few_runs {L} sessions workers old new still left seats rest runs begun many few =
    let parts : length seats ≡ length (seats_of (starts_of runs)) + length rest =
    ap (λ (xs : List (SeatNow Entry Setup)). length xs) begun.seats_are ∙ length-append (seats_of (starts_of runs)) rest in
    omega (arith, parts, length_map (λ (s : SessionStart L). s.seat) (starts_of runs), length_map (λ (m : SessionRun L). m.from) runs, many, few)

over_cause : (b : Bool) (c : Count) (f f' : ℕ) → IsDoorOver b c f f' → b ≡ true → Rose f f'
over_cause true c f f' over is = over.0
over_cause false c f f' over is = absurd (false≢true is)

over_all : (b : Bool) (c : Count) (f f' given sessions : ℕ) → IsDoorOver b c f f' → c.given ≡ given → c.sessions ≡ sessions
    → MatchBool b (given < sessions) (given ≡ sessions)
over_all true c f f' given sessions over g s = omega (arith, over.1, g, s)
over_all false c f f' given sessions over g s = sym g ∙ over ∙ s

count_is : (c : Count) (port sessions given back : ℕ) → c.port ≡ port → c.sessions ≡ sessions → c.given ≡ given → c.back ≡ back → c ≡ record { port = port; sessions = sessions; given = given; back = back }
count_is c port sessions given back a b d e =
    ap (λ n. record { port = n; sessions = c.sessions; given = c.given; back = c.back }) a
    ∙ ap (λ n. record { port = port; sessions = n; given = c.given; back = c.back }) b
    ∙ ap (λ n. record { port = port; sessions = sessions; given = n; back = c.back }) d
    ∙ ap (λ n. record { port = port; sessions = sessions; given = given; back = n }) e

module _ {L : Type 0} (source : Source.Ghosts L) (sink : Sink.Ghosts L) where
  -- the door was `at_first` at first, `at_listening` once it listened, `at_end` when it was over, and `at_last` once the links were back
  pub served_all : (setup : Setup) (port sessions workers : ℕ) (works : List Worked) (at_first at_listening at_end at_last : Doorway L) (desk : Desk) (faulted : Bool) (h : List Entry) (runs : List (SessionRun L)) (seats rest : List (SeatNow Entry Setup))
      → at_listening.count ≡ listened port sessions → at_listening.still ≡ at_first.still → at_listening.returned ≡ at_first.returned → at_first.faults ≤ at_listening.faults
      → HasServedLinks desk at_listening at_end seats rest (starts_of runs) faulted
      → IsTied source sink setup h runs → HasTakenBack at_end at_last (backs_of runs)
      → All IsRested works → length works ≤ workers → (staff_of works ≡ 0 → HaveNoChannel (starts_of runs)) → HasServedAll source sink setup port sessions workers at_first at_last faulted h runs
  served_all setup port sessions workers works at_first at_listening at_end at_last desk faulted h runs seats rest listen ss bs later links tied back worked few channels =
      let begun = links.begun in
      let many = length_map (λ (z : SessionRun L). z.from) runs in
      let p1 = ap (λ (z : Count). z.port) listen in let n1 = ap (λ (z : Count). z.sessions) listen in let g1 = ap (λ (z : Count). z.given) listen in let k1 = ap (λ (z : Count). z.back) listen in
      let given : at_end.count.given ≡ length runs = omega (arith, begun.given, g1, many) in
      let backs = length_map (λ (z : SessionRun L). z.link) runs in
      let k3 : at_last.count.back ≡ length runs = omega (arith, ap (λ (z : Count). z.back) back.count, backs, begun.back, k1) in
      record {
        tied = tied;
        given = subst (λ s. LosesFront s at_last.still (links_of (starts_of runs))) ss (subst (λ s. LosesFront at_listening.still s (links_of (starts_of runs))) (sym back.still) begun.links);
        returned = subst (λ b. Gains b at_last.returned (backs_of runs)) (links.returned ∙ bs) back.returned;
        count = inl (
          count_is at_last.count port sessions (length runs) (length runs) (ap (λ (z : Count). z.port) back.count ∙ begun.port ∙ p1) (ap (λ (z : Count). z.sessions) back.count ∙ begun.sessions ∙ n1) (ap (λ (z : Count). z.given) back.count ∙ given) k3,
          over_all faulted at_end.count at_listening.faults at_end.faults (length runs) sessions links.over given (begun.sessions ∙ n1),
        );
        cause = λ is. let r = over_cause faulted at_end.count at_listening.faults at_end.faults links.over is in omega (arith, r, later, back.faults);
        works = works;
        worked = worked;
        few = few;
        channels = channels;
      }

  pub not_listened : (setup : Setup) (port sessions workers : ℕ) (at_first at_listening at_last : Doorway L) (h : List Entry) (runs : List (SessionRun L))
      → at_listening.count ≡ at_first.count → at_listening.still ≡ at_first.still → at_listening.returned ≡ at_first.returned → Rose at_first.faults at_listening.faults → runs ≡ []
      → IsTied source sink setup h runs → HasTakenBack at_listening at_last (backs_of runs)
      → HasServedAll source sink setup port sessions workers at_first at_last true h runs
  not_listened setup port sessions workers at_first at_listening at_last h runs listen ss bs rose none tied back =
      let zero_ : length runs ≡ 0 = ap (λ (ms : List (SessionRun L)). length ms) none in
      let backs = length_map (λ (z : SessionRun L). z.link) runs in
      let same : at_listening.count.back + length (backs_of runs) ≡ at_listening.count.back = omega (arith, backs, zero_) in
      record {
        tied = tied;
        given = subst (λ ms. LosesFront at_first.still at_last.still (links_of (starts_of ms))) (sym none) (subst (λ s. LosesFront at_first.still s []) (sym (back.still ∙ ss)) (loses_none at_first.still));
        returned = subst (λ b. Gains b at_last.returned (backs_of runs)) bs back.returned;
        count = inr (back.count ∙ ap (λ n. record { port = at_listening.count.port; sessions = at_listening.count.sessions; given = at_listening.count.given; back = n }) same ∙ listen, zero_, refl);
        cause = λ is. omega (arith, rose, back.faults);
        works = [];
        worked = λ k d below. absurd (omega arith);
        few = omega arith;
        channels = λ _. subst (λ (ms : List (SessionRun L)). HaveNoChannel (starts_of ms)) (sym none) (λ k d below. absurd (omega arith));
      }

  -- the whole, by the closed picture
  pub whole : (setup fixed : Setup) (port sessions workers : ℕ) (old new : Doorway L) (failed faulted : Bool)
      (picture : Story) (counts : Counts) (runs : List (SessionRun L)) → setup ≡ fixed → faulted ≡ failed → picture.setup ≡ setup → IsLegal setup picture.history
      → All IsComplete picture.history → HasServedAll source sink setup port sessions workers old new failed picture.history runs → counts ≡ counted runs
      → HasServedWhole source sink fixed port sessions workers old new faulted picture counts
  whole setup fixed port sessions workers old new failed faulted picture counts runs same told own legal complete all are =
      subst (λ (s : Setup). HasServedWhole source sink s port sessions workers old new faulted picture counts) same
      (subst (λ (b : Bool). HasServedWhole source sink setup port sessions workers old new b picture counts) (sym told)
      (record { runs = runs; setup_is = own; legal = legal; complete = complete; all = all; counts_are = are }))
