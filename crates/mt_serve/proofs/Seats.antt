-- Seats, one by one.
use Rattle.std.proofs.Common.{◌≡◌, ◌+◌, ℕ, zero, suc, List, [], ◌∷◌, ◌++◌, map, length, refl, sym, ap, ◌∙◌, append_assoc, append-nil, arith}
use Rattle.std.specs.List.{range_with_len}
use Rattle.std.proofs.lemmas.List.Elements.{All-push}
use Rattle.mt_base.specs.Tables.{Setup}
use Rattle.mt_desk.specs.Desk.{Desk, IsSeatOfDesk}
use Rattle.mt_turn.specs.declared.view.Phase.TheVariants.{Idle}
use Rattle.mt_turn.specs.declared.view.View.{View}
use Rattle.mt_turn.specs.declared.view.Joined.{Joined}
use Rattle.mt_turn.specs.Seats.{SeatNow}
use Rattle.mt_turn.specs.Views.{giver, newcomer, taker, joined_as}
use Rattle.mt_base.specs.declared.command.Entry.{Entry}
use Rattle.mt_serve.specs.Seating.{numbers_of}
use Rattle.mt_serve.specs.Private.Seating.{IsNewSeat, HasSplit, HasJoined, joined_of}
use Rattle.mt_serve.proofs.Accepts.{map_push, length_push}

range_push : (a n : ℕ) → range_with_len a n ++ (a + n) ∷ [] ≡ range_with_len a (suc n)
range_push a zero = let e : a + 0 ≡ a = omega arith in ap (λ (m : ℕ). m ∷ []) e
range_push a (suc n) =
    let e : a + suc n ≡ a + 1 + n = omega arith in
    ap (λ ms. a ∷ ms) (ap (λ m. range_with_len (a + 1) n ++ m ∷ []) e ∙ range_push (a + 1) n)

pub length_map : {A B : Type 0} (f : A → B) (xs : List A) → length (map f xs) ≡ length xs
length_map f [] = refl
length_map f (x ∷ xs) = omega (arith, length_map f xs)

pub length_both : {A : Type 0} (xs ys : List A) → length (xs ++ ys) ≡ length xs + length ys
length_both [] ys = omega arith
length_both (x ∷ xs) ys = omega (arith, length_both xs ys)

pub split_more : (desk : Desk) (v w w' : View Entry Setup) (seats : List (SeatNow Entry Setup)) (s : SeatNow Entry Setup) → HasSplit desk v w seats
    → w' ≡ giver w → s.view ≡ newcomer w → IsSeatOfDesk desk s → HasSplit desk v w' (seats ++ s ∷ [])
split_more desk v w w' seats s so gives comes own =
    let number : s.view.number ≡ length w.gave + 1 = ap (λ (z : View Entry Setup). z.number) comes in
    let many : length w.gave ≡ length v.gave + length seats = omega (arith, ap (λ (ns : List ℕ). length ns) so.gave, length_both v.gave (numbers_of seats), length_map (λ (z : SeatNow Entry Setup). z.view.number) seats) in
    let next : s.view.number ≡ length v.gave + 1 + length seats = omega (arith, number, many) in
    let pushed : length (seats ++ s ∷ []) ≡ suc (length seats) = omega (arith, length_push seats s) in
    let numbers : numbers_of (seats ++ s ∷ []) ≡ numbers_of seats ++ s.view.number ∷ [] = map_push (λ (z : SeatNow Entry Setup). z.view.number) seats s in
    record {
      number = ap (λ (z : View Entry Setup). z.number) gives ∙ so.number;
      seen = ap (λ (z : View Entry Setup). z.seen) gives ∙ so.seen;
      mine = ap (λ (z : View Entry Setup). z.mine) gives ∙ so.mine;
      joined = ap (λ (z : View Entry Setup). z.joined) gives ∙ so.joined;
      idle = ap (λ (z : View Entry Setup). z.phase) gives;
      gave =
          ap (λ (z : View Entry Setup). z.gave) gives
          ∙ ap (λ ns. ns ++ (length w.gave + 1) ∷ []) so.gave
          ∙ ap (λ n. (v.gave ++ numbers_of seats) ++ n ∷ []) (sym number)
          ∙ append_assoc v.gave (numbers_of seats) (s.view.number ∷ [])
          ∙ ap (λ ns. v.gave ++ ns) (sym numbers);
      numbers =
          numbers
          ∙ ap (λ ns. ns ++ s.view.number ∷ []) so.numbers
          ∙ ap (λ n. range_with_len (length v.gave + 1) (length seats) ++ n ∷ []) next
          ∙ range_push (length v.gave + 1) (length seats)
          ∙ ap (λ n. range_with_len (length v.gave + 1) n) (sym pushed);
      fresh = All-push (IsNewSeat desk v) seats s so.fresh (record {
        ready = own;
        seen = ap (λ (z : View Entry Setup). z.seen) comes ∙ so.seen;
        mine = ap (λ (z : View Entry Setup). z.mine) comes;
      });
    }

pub joined_none : (v : View Entry Setup) → v.phase ≡ Idle → HasJoined v v []
joined_none v idle = record { number = refl; mine = refl; gave = refl; idle = idle; joined = sym (append-nil _) }

pub joined_more : (v w w' : View Entry Setup) (views : List (View Entry Setup)) (x : View Entry Setup) → HasJoined v w views → w' ≡ taker w x → HasJoined v w' (views ++ x ∷ [])
joined_more v w w' views x so takes = record {
  number = ap (λ (z : View Entry Setup). z.number) takes ∙ so.number;
  mine = ap (λ (z : View Entry Setup). z.mine) takes ∙ so.mine;
  gave = ap (λ (z : View Entry Setup). z.gave) takes ∙ so.gave;
  idle = ap (λ (z : View Entry Setup). z.phase) takes ∙ so.idle;
  joined =
      ap (λ (z : View Entry Setup). z.joined) takes
      ∙ ap (λ (js : List (Joined Entry)). js ++ joined_as x ∷ []) so.joined
      ∙ append_assoc v.joined (joined_of views) (joined_as x ∷ [])
      ∙ ap (λ js. v.joined ++ js) (sym (map_push joined_as views x));
}

pub gave_more : (w w' : View Entry Setup) → w' ≡ giver w → length w'.gave ≡ length w.gave + 1
gave_more w w' gives = ap (λ (z : View Entry Setup). length z.gave) gives ∙ length_push w.gave (length w.gave + 1)
