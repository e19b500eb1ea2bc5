-- What renewals leave of a seat's own entries.
use Rattle.std.proofs.Common.{false, ◌≡◌, ℕ, List, [], ◌∷◌, ◌++◌, All, Option, Some, Result, Ok, Err, sym, subst, ap, ◌∙◌, arith}
use Rattle.std.proofs.lemmas.List.{append_assoc, append-nil}
use Rattle.std.proofs.lemmas.List.Elements.{All-append, All-push}
use Rattle.mt_base.proofs.CheckLemmas.{answer_is}
use Rattle.mt_base.specs.declared.command.Command.TheVariants.{Renew}
use Rattle.mt_base.specs.declared.command.Entered.{Entered}
use Rattle.mt_base.specs.declared.command.Entry.{Entry}
use Rattle.mt_base.specs.Decision.{checks, filled, look_at}
use Rattle.mt_base.specs.Effect.{state_of}
use Rattle.mt_board.specs.declared.no.No.{No}
use Rattle.mt_board.specs.declared.no.No.TheVariants.{Memory, Refused}
use Rattle.mt_board.specs.Changing.{IsChanged}
use Rattle.mt_base.specs.Tables.{Setup}
use Rattle.mt_board.specs.BoardSeat.{BoardSeat, GoesOn, IsSameSeat as IsSameBoardSeat}
use Rattle.mt_board.specs.Settling.{AreRenewalsAsked}
use Rattle.mt_desk.specs.Desk.{Desk, Hand, IsSeatOfDesk, seat_of_hand, seat_of}
use Rattle.mt_desk.specs.declared.home.Home.{Home}
use Rattle.mt_turn.specs.declared.view.View.{View}
use Rattle.mt_turn.specs.Seats.{SeatNow}
use Rattle.mt_workers.specs.Work.{HasWorkedAll}
use Rattle.mt_serve.specs.Working.{IsRenewal}
use Rattle.mt_serve.specs.Working.{HasWorkedInSeat}

abbrev home_of : Hand → Home
home_of h = record { turn = h.desk.home; gave = h.view.gave; joined = h.view.joined }

-- the entries that are new among a seat's own, which are renewals
abbrev Renews : BoardSeat → BoardSeat → Type 0
Renews s t = (added : List Entry) × (t.mine ≡ s.mine ++ added) × All IsRenewal added

no_more : (s t : BoardSeat) → t.mine ≡ s.mine → Renews s t
no_more s t same = ([], same ∙ sym (append-nil s.mine), λ k d below. absurd (omega arith))

once : (s t : BoardSeat) (call : List ℕ) (result : Result Entered No) → IsChanged s (Renew call) result t → Renews s t
once s t call (Ok entered) is =
    let now = state_of s.fixed is.front in
    let same = answer_is (checks s.fixed (look_at now (Renew call)) s.number (Renew call)) (record { who = s.number; command = filled now.now (Renew call) }) is.entry is.decided.0 in
    (is.entry ∷ [], is.mine, All-push IsRenewal [] is.entry (λ k d below. absurd (omega arith)) (call, sym (ap (λ (e : Entry). e.command) same)))
once s t call (Err (Refused refusal version)) is = no_more s t is.0.looked.mine
once s t call (Err Memory) is = no_more s t is.mine

pub renews : (s t : BoardSeat) (calls : List (List ℕ)) (results : List (Result Entered No)) → AreRenewalsAsked s calls results t → Renews s t
renews s t [] [] is = no_more s t (ap (λ (u : BoardSeat). u.mine) is)
renews s t (call ∷ calls) (result ∷ results) is =
    let first = once s is.0 call result is.1 in
    let rest = renews is.0 t calls results is.2 in (
      first.0 ++ rest.0,
      rest.1 ∙ ap (λ es. es ++ rest.0) first.1 ∙ append_assoc s.mine first.0 rest.0,
      All-append IsRenewal first.0 rest.0 first.2 rest.2,
    )
renews s t [] (result ∷ results) is = absurd is
renews s t (call ∷ calls) [] is = absurd is

-- what a worker's hand did, by its seat
pub worked_as : (desk : Desk) (before after : SeatNow Entry Setup) (hand back : Hand) (left : Option (List (List ℕ))) → IsSeatOfDesk desk before
    → hand ≡ record { desk = desk; view = before.view; keeps_look = false } → after ≡ seat_of_hand back → IsSeatOfDesk back.desk after
    → HasWorkedAll left (seat_of hand.desk.fixed hand.view) (seat_of back.desk.fixed back.view)
    → IsSameBoardSeat (seat_of hand.desk.fixed hand.view) (seat_of back.desk.fixed back.view) × GoesOn hand.view.seen back.view.seen
    → home_of back ≡ home_of hand → HasWorkedInSeat before after
worked_as desk before after hand back left ready is after_is ready_after worked on home =
    let view : after.view ≡ back.view = ap (λ (p : SeatNow Entry Setup). p.view) after_is in
    let from : hand.view ≡ before.view = ap (λ (h : Hand). h.view) is in
    let desk_is : hand.desk ≡ desk = ap (λ (h : Hand). h.desk) is in
    let added = renews (seat_of hand.desk.fixed hand.view) (seat_of back.desk.fixed back.view) worked.calls worked.results worked.renewed in
    record {
      home = ready_after.home_is ∙ ap (λ (h : Home). h.turn) home ∙ ap (λ (d : Desk). d.home) desk_is ∙ sym ready.home_is;
      idle = ready_after.idle;
      same = (
        ap (λ (v : View Entry Setup). v.number) view ∙ on.0.number ∙ ap (λ (v : View Entry Setup). v.number) from,
        ap (λ (v : View Entry Setup). v.gave) view ∙ ap (λ (h : Home). h.gave) home ∙ ap (λ (v : View Entry Setup). v.gave) from,
        ap (λ (v : View Entry Setup). v.joined) view ∙ ap (λ (h : Home). h.joined) home ∙ ap (λ (v : View Entry Setup). v.joined) from,
        ready_after.fixed_is ∙ ap Some (on.0.fixed ∙ ap (λ (d : Desk). d.fixed) desk_is) ∙ sym ready.fixed_is,
      );
      begins = subst (λ (v : View Entry Setup). GoesOn before.view.seen v.seen) (sym view)
          (subst (λ (v : View Entry Setup). GoesOn v.seen back.view.seen) from on.1);
      added = added.0;
      mine = ap (λ (v : View Entry Setup). v.mine) view ∙ added.1 ∙ ap (λ (v : View Entry Setup). v.mine ++ added.0) from;
      renewals = added.2;
    }
