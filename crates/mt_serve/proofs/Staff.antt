-- Workers, from the seats that they are given to those that they give back.
use Rattle.std.proofs.Common.{◌≡◌, ◌≤◌, ◌+◌, ◌++◌, ℕ, Bool, true, false, List, [], ◌∷◌, map, length, All, cond, refl, sym, ap, ◌∙◌, subst, append_assoc, arith}
use Rattle.std.specs.List.{count_by, sum_by}
use Rattle.std.proofs.lemmas.List.Elements.{All-append, All-contains, Contains-append_left}
use Rattle.std.proofs.lemmas.List.Sums.{sum_by-append}
use Rattle.mt_base.proofs.Members.{All-from_held, Contains-map}
use Rattle.mt_base.specs.Tables.{Setup}
use Rattle.mt_base.specs.declared.command.Entry.{Entry}
use Rattle.mt_board.proofs.SeatLemmas.{goes_on}
use Rattle.mt_desk.specs.Desk.{Desk, IsSeatOfDesk}
use Rattle.mt_turn.specs.Seats.{SeatNow}
use Rattle.mt_serve.specs.Private.Working.{Begun, HasStaffed, begun_as, froms_of, seats_begun, started_of}
use Rattle.mt_serve.specs.Working.{HasWorkedInSeat, IsRenewal, Worked, staff_of}
use Rattle.mt_serve.proofs.Seats.{length_map}

-- one more that had a thread, or hadn't
pub started_more : (begun : List Begun) (b : Begun) → started_of (begun ++ b ∷ []) ≡ started_of begun + cond b.is_started 1 0
started_more begun b =
    let all = sum_by-append (λ (x : Begun). cond x.is_started 1 0) begun (b ∷ []) in
    omega (arith, all)

froms_begun : (works : List Worked) → froms_of works ≡ seats_begun (map begun_as works)
froms_begun [] = refl
froms_begun (w ∷ works) = ap (λ ss. w.from ∷ ss) (froms_begun works)

staff_begun : (works : List Worked) → staff_of works ≡ started_of (map begun_as works)
staff_begun [] = refl
staff_begun (w ∷ works) =
    sum_by-append (λ (x : Worked). cond x.has_worked 1 0) (w ∷ []) works ∙ ap (λ n. sum_by (λ (x : Worked). cond x.has_worked 1 0) (w ∷ []) + n) (staff_begun works)
    ∙ sym (sum_by-append (λ (x : Begun). cond x.is_started 1 0) (begun_as w ∷ []) (map begun_as works))

-- all workers are over
pub staffed : (desk : Desk) (hands rest : List (SeatNow Entry Setup)) (begun : List Begun) (works : List Worked) (staff many : ℕ) → hands ≡ seats_begun begun ++ rest
    → All (IsSeatOfDesk desk) rest → staff ≡ started_of begun → length begun ≤ many → map begun_as works ≡ begun → HasStaffed desk hands rest works staff many
staffed desk hands rest begun works staff many is ready staff_is few same = record {
  hands_are = is ∙ ap (λ ss. ss ++ rest) (ap seats_begun (sym same) ∙ sym (froms_begun works));
  ready = ready;
  staff_is = staff_is ∙ ap started_of (sym same) ∙ sym (staff_begun works);
  few = omega (arith, few, ap (λ (bs : List Begun). length bs) same, length_map begun_as works);
}

-- workers were begun in seats of the desk
pub begun_ready : (desk : Desk) (hands rest : List (SeatNow Entry Setup)) (begun : List Begun) → All (IsSeatOfDesk desk) hands → hands ≡ seats_begun begun ++ rest
    → All (λ (b : Begun). IsSeatOfDesk desk b.seat) begun
begun_ready desk hands rest begun all is = All-from_held (λ (b : Begun). IsSeatOfDesk desk b.seat) begun (λ b held.
    All-contains (IsSeatOfDesk desk) (seats_begun begun ++ rest) b.seat (subst (All (IsSeatOfDesk desk)) is all)
    (Contains-append_left _ _ _ (Contains-map (λ (x : Begun). x.seat) begun b held)))

-- a worker's seat stays one of the desk
pub still_ready : (desk : Desk) (before after : SeatNow Entry Setup) → IsSeatOfDesk desk before → HasWorkedInSeat before after → IsSeatOfDesk desk after
still_ready desk before after ready worked = record {
  home_is = worked.home ∙ ready.home_is;
  idle = worked.idle;
  fixed_is = worked.same.3 ∙ ready.fixed_is;
}

-- it worked once more in it
pub worked_on : (a b c : SeatNow Entry Setup) → HasWorkedInSeat a b → HasWorkedInSeat b c → HasWorkedInSeat a c
worked_on a b c first second = record {
  home = second.home ∙ first.home;
  idle = second.idle;
  same = (second.same.0 ∙ first.same.0, second.same.1 ∙ first.same.1, second.same.2 ∙ first.same.2, second.same.3 ∙ first.same.3);
  begins = goes_on _ _ _ first.begins second.begins;
  added = first.added ++ second.added;
  mine = second.mine ∙ ap (λ es. es ++ second.added) first.mine ∙ append_assoc a.view.mine first.added second.added;
  renewals = All-append IsRenewal first.added second.added first.renewals second.renewals;
}
