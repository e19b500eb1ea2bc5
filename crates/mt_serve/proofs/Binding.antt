-- One history ties all sessions.
use Rattle.std.proofs.Common.{◌≡◌, ◌+◌, ◌==◌, ◌⊎◌, inl, inr, ℕ, zero, suc, List, [], ◌∷◌, ◌++◌, map, length, get_or, drop, All, Contains, refl, sym, ap, ◌∙◌, subst, append_assoc, eq-eqb, arith}
use Rattle.std.specs.List.{range_with_len}
use Rattle.std.proofs.lemmas.List.Elements.{All-append, All-contains, Contains-append_cases, Contains-append_left, Contains-append_right}
use Rattle.mt_base.specs.Tables.{Setup}
use Rattle.mt_desk.specs.Desk.{Desk, IsSeatOfDesk}
use Rattle.mt_io.specs.declared.source.Source as Source
use Rattle.mt_io.specs.declared.sink.Sink as Sink
use Rattle.mt_turn.specs.declared.view.View.{View}
use Rattle.mt_turn.specs.declared.view.Joined.{Joined}
use Rattle.mt_turn.specs.Seats.{SeatNow}
use Rattle.mt_turn.specs.Views.{joined_as, first_view, entries_of}
use Rattle.mt_turn.specs.Lending.{AllJoined, IsJoined, ClosesHistory}
use Rattle.mt_base.specs.declared.command.Entry.{Entry}
use Rattle.mt_serve.specs.Sitting.{SessionRun, SessionStart, starts_of, seats_of}
use Rattle.mt_serve.specs.Working.{IsRenewal}
use Rattle.mt_serve.specs.Private.Working.{froms_of, rests_of}
use Rattle.mt_serve.specs.Working.{IsRested, Worked}
use Rattle.mt_serve.specs.Serving.{HasServed}
use Rattle.mt_serve.specs.Seating.{numbers_of}
use Rattle.mt_serve.specs.Private.Seating.{IsNewSeat, AllSplit, HasSplit, HasJoined, views_of, joined_of}
use Rattle.mt_serve.specs.Tied.{number_of, IsSessions, IsInHistory, IsTied}
use Rattle.mt_serve.specs.Private.Tied.{AreOver, ends_of}
use Rattle.mt_serve.proofs.Seats.{length_map}
use Rattle.mt_base.proofs.Members.{All-from_held, Contains-map, Contains-none}
use Rattle.mt_serve.proofs.Members.{contains_filter, contains_unmap}

map_both : {A B : Type 0} (f : A → B) (xs ys : List A) → map f (xs ++ ys) ≡ map f xs ++ map f ys
map_both f [] ys = refl
map_both f (x ∷ xs) ys = ap (λ zs. f x ∷ zs) (map_both f xs ys)

range_front : (xs ys : List ℕ) (a n : ℕ) → xs ++ ys ≡ range_with_len a n → xs ≡ range_with_len a (length xs)
range_front [] ys a n is = refl
range_front (x ∷ xs) ys a zero is = let e = ap (λ (zs : List ℕ). length zs) is in absurd (omega arith)
range_front (x ∷ xs) ys a (suc n) is =
    let head : x ≡ a = ap (λ (zs : List ℕ). get_or zs 0 0) is in
    let tail : xs ++ ys ≡ range_with_len (a + 1) n = ap (λ (zs : List ℕ). drop 1 zs) is in
    ap (λ z. z ∷ xs) head ∙ ap (λ zs. a ∷ zs) (range_front xs ys (a + 1) n tail)

joined_on : (u v w : View Entry Setup) (xs ys : List (View Entry Setup)) → HasJoined u v xs → HasJoined v w ys → HasJoined u w (xs ++ ys)
joined_on u v w xs ys a b = record {
  number = b.number ∙ a.number;
  mine = b.mine ∙ a.mine;
  gave = b.gave ∙ a.gave;
  idle = b.idle;
  joined = b.joined ∙ ap (λ js. js ++ joined_of ys) a.joined ∙ append_assoc u.joined (joined_of xs) (joined_of ys) ∙ ap (λ js. u.joined ++ js) (sym (map_both joined_as xs ys));
}

in_entries : (h : List Entry) (e : Entry) (n : ℕ) → Contains h e → n ≡ e.who → Contains (entries_of number_of n h) e
in_entries h e n c is = contains_filter (λ (x : Entry). number_of x == n) h e c (eq-eqb (number_of e) n (sym is))

module _ {L : Type 0} (source : Source.Ghosts L) (sink : Sink.Ghosts L) where
  -- all seats that are joined, by what they know at the end
  abbrev all_views : List (SessionRun L) → List (SeatNow Entry Setup) → List Worked → List (SeatNow Entry Setup) → List (View Entry Setup)
  all_views runs rest works hands = (views_of (ends_of runs) ++ views_of rest) ++ (views_of (rests_of works) ++ views_of hands)

  in_runs : (runs : List (SessionRun L)) (rest : List (SeatNow Entry Setup)) (works : List Worked) (hands : List (SeatNow Entry Setup)) (m : SessionRun L) → Contains runs m → Contains (all_views runs rest works hands) m.seat.view
  in_runs runs rest works hands m c =
      Contains-append_left _ _ _ (Contains-append_left _ _ _ (Contains-map (λ (s : SeatNow Entry Setup). s.view) (ends_of runs) m.seat (Contains-map (λ (x : SessionRun L). x.seat) runs m c)))

  in_rest : (runs : List (SessionRun L)) (rest : List (SeatNow Entry Setup)) (works : List Worked) (hands : List (SeatNow Entry Setup)) (s : SeatNow Entry Setup) → Contains rest s → Contains (all_views runs rest works hands) s.view
  in_rest runs rest works hands s c = Contains-append_left _ _ _ (Contains-append_right (views_of (ends_of runs)) _ _ (Contains-map (λ (s : SeatNow Entry Setup). s.view) rest s c))

  in_works : (runs : List (SessionRun L)) (rest : List (SeatNow Entry Setup)) (works : List Worked) (hands : List (SeatNow Entry Setup)) (w : Worked) → Contains works w → Contains (all_views runs rest works hands) w.seat.view
  in_works runs rest works hands w c =
      Contains-append_right (views_of (ends_of runs) ++ views_of rest) _ _ (Contains-append_left _ _ _ (Contains-map (λ (s : SeatNow Entry Setup). s.view) (rests_of works) w.seat (Contains-map (λ (x : Worked). x.seat) works w c)))

  in_hands : (runs : List (SessionRun L)) (rest : List (SeatNow Entry Setup)) (works : List Worked) (hands : List (SeatNow Entry Setup)) (s : SeatNow Entry Setup) → Contains hands s → Contains (all_views runs rest works hands) s.view
  in_hands runs rest works hands s c =
      Contains-append_right (views_of (ends_of runs) ++ views_of rest) _ _ (Contains-append_right (views_of (rests_of works)) _ _ (Contains-map (λ (s : SeatNow Entry Setup). s.view) hands s c))

  -- What stands when all seats are joined: the first seat knows w
  pub record AreJoined (desk : Desk) (v w : View Entry Setup) (runs : List (SessionRun L)) (rest : List (SeatNow Entry Setup)) (works : List Worked) (hands : List (SeatNow Entry Setup)) : Type 0 where
    pub split : AllSplit desk v (seats_of (starts_of runs) ++ rest) (froms_of works ++ hands)
    pub joined : HasJoined v w (all_views runs rest works hands)
    pub over : AreOver source sink runs
    pub worked : All IsRested works

  pub are_joined : (desk : Desk) (v w1 w2 w3 w4 : View Entry Setup) (runs : List (SessionRun L)) (rest : List (SeatNow Entry Setup)) (works : List Worked) (hands : List (SeatNow Entry Setup))
      → AllSplit desk v (seats_of (starts_of runs) ++ rest) (froms_of works ++ hands)
      → HasJoined v w1 (views_of (ends_of runs)) → HasJoined w1 w2 (views_of rest) → HasJoined w2 w3 (views_of (rests_of works)) → HasJoined w3 w4 (views_of hands)
      → AreOver source sink runs → All IsRested works → AreJoined desk v w4 runs rest works hands
  are_joined desk v w1 w2 w3 w4 runs rest works hands split a b c d over worked = record {
    split = split;
    joined = joined_on v w2 w4 (views_of (ends_of runs) ++ views_of rest) (views_of (rests_of works) ++ views_of hands) (joined_on v w1 w2 (views_of (ends_of runs)) (views_of rest) a b) (joined_on w2 w3 w4 (views_of (rests_of works)) (views_of hands) c d);
    over = over;
    worked = worked;
  }

  module _ (desk : Desk) (v w : View Entry Setup) (runs : List (SessionRun L)) (rest : List (SeatNow Entry Setup)) (works : List Worked) (hands : List (SeatNow Entry Setup)) (so : AreJoined desk v w runs rest works hands) where
    joined_is : w.joined ≡ joined_of (all_views runs rest works hands)
    joined_is = so.joined.joined ∙ ap (λ js. js ++ joined_of (all_views runs rest works hands)) so.split.joined

    join_of : (x : View Entry Setup) → Contains (all_views runs rest works hands) x → Contains w.joined (joined_as x)
    join_of x c = subst (λ js. Contains js (joined_as x)) (sym joined_is) (Contains-map joined_as (all_views runs rest works hands) x c)

    seat_joined : (s : SeatNow Entry Setup) → Contains (seats_of (starts_of runs) ++ rest) s → IsJoined w.joined s.view.number
    seat_joined s c = elim (Contains-append_cases (seats_of (starts_of runs)) rest s c) [
      | inl in_starts ↦
          let a = contains_unmap (λ (z : SessionStart L). z.seat) (starts_of runs) s in_starts in
          let b = contains_unmap (λ (z : SessionRun L). z.from) runs a.0 a.1 in
          let served = All-contains (λ (m : SessionRun L). HasServed source sink m.from.link m.from.seat m.from.has_channel m.link m.seat m.outcome) runs b.0 so.over b.1 in
          (joined_as b.0.seat.view, join_of b.0.seat.view (in_runs runs rest works hands b.0 b.1), served.same.0 ∙ ap (λ (z : SessionStart L). z.seat.view.number) b.2 ∙ ap (λ (z : SeatNow Entry Setup). z.view.number) a.2)
      | inr in_rests ↦ (joined_as s.view, join_of s.view (in_rest runs rest works hands s in_rests), refl)
    ]

    hand_joined : (s : SeatNow Entry Setup) → Contains (froms_of works ++ hands) s → IsJoined w.joined s.view.number
    hand_joined s c = elim (Contains-append_cases (froms_of works) hands s c) [
      | inl in_froms ↦
          let a = contains_unmap (λ (z : Worked). z.from) works s in_froms in
          let worked = All-contains IsRested works a.0 so.worked a.1 in
          (joined_as a.0.seat.view, join_of a.0.seat.view (in_works runs rest works hands a.0 a.1), worked.same.0 ∙ ap (λ (z : SeatNow Entry Setup). z.view.number) a.2)
      | inr in_rests ↦ (joined_as s.view, join_of s.view (in_hands runs rest works hands s in_rests), refl)
    ]

    pub all_joined : AllJoined w
    all_joined n c = elim (Contains-append_cases (numbers_of (seats_of (starts_of runs) ++ rest)) (numbers_of (froms_of works ++ hands)) n (subst (λ ns. Contains ns n) (so.joined.gave ∙ so.split.gave) c)) [
      | inl in_seats ↦ let a = contains_unmap (λ (z : SeatNow Entry Setup). z.view.number) (seats_of (starts_of runs) ++ rest) n in_seats in subst (IsJoined w.joined) a.2 (seat_joined a.0 a.1)
      | inr in_works_ ↦ let a = contains_unmap (λ (z : SeatNow Entry Setup). z.view.number) (froms_of works ++ hands) n in_works_ in subst (IsJoined w.joined) a.2 (hand_joined a.0 a.1)
    ]

    fresh_of : (s : SeatNow Entry Setup) → Contains ((seats_of (starts_of runs) ++ rest) ++ (froms_of works ++ hands)) s → IsNewSeat desk (first_view desk.fixed) s
    fresh_of s c = All-contains (IsNewSeat desk (first_view desk.fixed)) _ s so.split.fresh c

    module _ (h : List Entry) (closes : ClosesHistory number_of w h) where
      mine_of : (x : View Entry Setup) → Contains (all_views runs rest works hands) x → entries_of number_of x.number h ≡ x.mine
      mine_of x c = closes.joined_mine (joined_as x) (join_of x c)

      in_mine : (e : Entry) (x : View Entry Setup) → Contains h e → Contains (all_views runs rest works hands) x → x.number ≡ e.who → Contains x.mine e
      in_mine e x ce cx is = subst (λ es. Contains es e) (mine_of x cx) (in_entries h e x.number ce is)

      fresh_start : (m : SessionRun L) → Contains runs m → IsNewSeat desk (first_view desk.fixed) m.from.seat
      fresh_start m c =
          fresh_of m.from.seat (Contains-append_left _ _ _ (Contains-append_left _ _ _ (Contains-map (λ (z : SessionStart L). z.seat) (starts_of runs) m.from (Contains-map (λ (z : SessionRun L). z.from) runs m c))))

      session_in : (m : SessionRun L) → Contains runs m → IsInHistory source sink desk.fixed h m
      session_in m c =
          let served = All-contains (λ (m : SessionRun L). HasServed source sink m.from.link m.from.seat m.from.has_channel m.link m.seat m.outcome) runs m so.over c in
          let fresh = fresh_start m c in
          let at = in_runs runs rest works hands m c in
          record {
            number = served.same.0;
            fixed = fresh.ready.fixed_is;
            began = (fresh.seen, fresh.mine);
            served = served;
            begins = closes.joined_begins (joined_as m.seat.view) (join_of m.seat.view at);
            mine = mine_of m.seat.view at;
          }

      idle_has_none : (e : Entry) (s : SeatNow Entry Setup) → Contains h e → Contains (all_views runs rest works hands) s.view → s.view.number ≡ e.who → IsNewSeat desk (first_view desk.fixed) s → ⊥
      idle_has_none e s ce cs is fresh = Contains-none e (subst (λ es. Contains es e) fresh.mine (in_mine e s.view ce cs is))

      other : (e : Entry) → Contains h e → (x : View Entry Setup) → Contains (all_views runs rest works hands) x → x.number ≡ e.who → IsSessions runs e.who ⊎ IsRenewal e
      other e ce x cx is = elim (Contains-append_cases (views_of (ends_of runs) ++ views_of rest) (views_of (rests_of works) ++ views_of hands) x cx) [
        | inl left ↦ elim (Contains-append_cases (views_of (ends_of runs)) (views_of rest) x left) [
          | inl of_ends ↦
              let a = contains_unmap (λ (z : SeatNow Entry Setup). z.view) (ends_of runs) x of_ends in
              let b = contains_unmap (λ (z : SessionRun L). z.seat) runs a.0 a.1 in
              inl (b.0, b.1, ap (λ (z : SeatNow Entry Setup). z.view.number) b.2 ∙ ap (λ (z : View Entry Setup). z.number) a.2 ∙ is)
          | inr of_rest ↦
              let a = contains_unmap (λ (z : SeatNow Entry Setup). z.view) rest x of_rest in
              absurd (idle_has_none e a.0 ce (in_rest runs rest works hands a.0 a.1) (ap (λ (z : View Entry Setup). z.number) a.2 ∙ is) (fresh_of a.0 (Contains-append_left _ _ _ (Contains-append_right (seats_of (starts_of runs)) _ _ a.1))))
        ]
        | inr right ↦ elim (Contains-append_cases (views_of (rests_of works)) (views_of hands) x right) [
          | inl of_works ↦
              let a = contains_unmap (λ (z : SeatNow Entry Setup). z.view) (rests_of works) x of_works in
              let b = contains_unmap (λ (z : Worked). z.seat) works a.0 a.1 in
              let worked = All-contains IsRested works b.0 so.worked b.1 in
              let number : b.0.seat.view.number ≡ e.who = ap (λ (z : SeatNow Entry Setup). z.view.number) b.2 ∙ ap (λ (z : View Entry Setup). z.number) a.2 ∙ is in
              let fresh = fresh_of b.0.from (Contains-append_right (seats_of (starts_of runs) ++ rest) _ _ (Contains-append_left _ _ _ (Contains-map (λ (z : Worked). z.from) works b.0 b.1))) in
              let mine : b.0.seat.view.mine ≡ worked.added = worked.mine ∙ ap (λ es. es ++ worked.added) fresh.mine in
              let at = in_mine e b.0.seat.view ce (in_works runs rest works hands b.0 b.1) number in
              inr (All-contains IsRenewal worked.added e worked.renewals (subst (λ es. Contains es e) mine at))
          | inr of_hands ↦
              let a = contains_unmap (λ (z : SeatNow Entry Setup). z.view) hands x of_hands in
              absurd (idle_has_none e a.0 ce (in_hands runs rest works hands a.0 a.1) (ap (λ (z : View Entry Setup). z.number) a.2 ∙ is) (fresh_of a.0 (Contains-append_right (seats_of (starts_of runs) ++ rest) _ _ (Contains-append_right (froms_of works) _ _ a.1))))
        ]
      ]

      others : (e : Entry) → Contains h e → IsSessions runs e.who ⊎ IsRenewal e
      others e c = elim (closes.no_others e c) [
        | inl first ↦ absurd (Contains-none e (subst (λ es. Contains es e) (closes.mine ∙ so.joined.mine ∙ so.split.mine) (in_entries h e 0 c (sym first))))
        | inr joined ↦
            let a = contains_unmap joined_as (all_views runs rest works hands) joined.0 (subst (λ js. Contains js joined.0) joined_is joined.1) in
            other e c a.0 a.1 (ap (λ (z : Joined Entry). z.number) a.2 ∙ joined.2)
      ]

      pub tied : IsTied source sink desk.fixed h runs
      tied = record {
        numbers =
            let both = sym (map_both (λ (z : SeatNow Entry Setup). z.view.number) (seats_of (starts_of runs)) rest) ∙ so.split.numbers in
            let many : length (numbers_of (seats_of (starts_of runs))) ≡ length runs = omega (arith, length_map (λ (z : SeatNow Entry Setup). z.view.number) (seats_of (starts_of runs)), length_map (λ (z : SessionStart L). z.seat) (starts_of runs), length_map (λ (z : SessionRun L). z.from) runs) in
            range_front (numbers_of (seats_of (starts_of runs))) (numbers_of rest) 1 _ both ∙ ap (λ n. range_with_len 1 n) many;
        each = All-from_held (IsInHistory source sink desk.fixed h) runs session_in;
        others = others;
      }

pub all_split : (desk : Desk) (v w : View Entry Setup) (seats hands : List (SeatNow Entry Setup)) → HasSplit desk (first_view desk.fixed) v seats → HasSplit desk v w hands → AllSplit desk w seats hands
all_split desk v w seats hands a b = record {
  number = b.number ∙ a.number;
  mine = b.mine ∙ a.mine;
  joined = b.joined ∙ a.joined;
  idle = b.idle;
  gave = b.gave ∙ ap (λ ns. ns ++ numbers_of hands) a.gave;
  numbers = a.numbers;
  fresh =
      All-append (IsNewSeat desk (first_view desk.fixed)) seats hands a.fresh
      (λ k d below. let f = b.fresh k d below in record { ready = f.ready; seen = f.seen ∙ a.seen; mine = f.mine });
}

module _ {L : Type 0} (desk : Desk) (v : View Entry Setup) (runs : List (SessionRun L)) (rest : List (SeatNow Entry Setup)) (works : List Worked) (hands : List (SeatNow Entry Setup)) (split : AllSplit desk v (seats_of (starts_of runs) ++ rest) (froms_of works ++ hands)) where
  fresh_at : (s : SeatNow Entry Setup) → Contains ((seats_of (starts_of runs) ++ rest) ++ (froms_of works ++ hands)) s → IsNewSeat desk (first_view desk.fixed) s
  fresh_at s c = All-contains (IsNewSeat desk (first_view desk.fixed)) _ s split.fresh c

  pub ready_runs : All (λ (m : SessionRun L). IsSeatOfDesk desk m.from.seat) runs
  ready_runs = All-from_held (λ (m : SessionRun L). IsSeatOfDesk desk m.from.seat) runs (λ m c. (fresh_at m.from.seat (Contains-append_left _ _ _ (Contains-append_left _ _ _ (Contains-map (λ (z : SessionStart L). z.seat) (starts_of runs) m.from (Contains-map (λ (z : SessionRun L). z.from) runs m c))))).ready)

  pub ready_rest : All (IsSeatOfDesk desk) rest
  ready_rest = All-from_held (IsSeatOfDesk desk) rest (λ s c. let f = fresh_at s (Contains-append_left _ _ _ (Contains-append_right (seats_of (starts_of runs)) _ _ c)) in f.ready)

  pub ready_works : All (λ (w : Worked). IsSeatOfDesk desk w.from) works
  ready_works = All-from_held (λ (w : Worked). IsSeatOfDesk desk w.from) works (λ w c. (fresh_at w.from (Contains-append_right (seats_of (starts_of runs) ++ rest) _ _ (Contains-append_left _ _ _ (Contains-map (λ (z : Worked). z.from) works w c)))).ready)

  pub ready_hands : All (IsSeatOfDesk desk) hands
  ready_hands = All-from_held (IsSeatOfDesk desk) hands (λ s c. let f = fresh_at s (Contains-append_right (seats_of (starts_of runs) ++ rest) _ _ (Contains-append_right (froms_of works) _ _ c)) in f.ready)
