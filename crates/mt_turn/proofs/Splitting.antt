-- Splitting a seat off the first one.
use Rattle.std.proofs.Common.{◌≡◌, ◌≢◌, ℕ, ◌+◌, ◌<◌, ◌^◌, ◌⊎◌, inl, inr, ⊎_elim, List, [], ◌∷◌, ◌++◌, length, set, sym, refl, ap, ◌∙◌, subst, arith, length-append, length-set, Contains, Option, eqb}
use mathlib.Core.Option.{some}
use lib.ListN.{get_elem?}
use Rattle.atomic_table.specs.Table.{State, Splits}
use Rattle.atomic_table.proofs.Lists.{at_set, set_here, set_else, at_longer}
use Rattle.mt_turn.specs.declared.view.Phase.TheVariants.{Splits as SplitsOff}
use Rattle.mt_turn.specs.declared.view.Joined.{Joined}
use Rattle.mt_turn.specs.declared.view.View.{View}
use Rattle.mt_turn.specs.Views.{entries_of, up_to, giver, newcomer}
use Rattle.mt_turn.specs.Lending.{HaveOwnNumbers}
use Rattle.mt_turn.specs.Private.Turning.{IsUnspent, HasTicket, HasSlot, tickets, numbers_drawn, Knows, Taken, AtHome, IsOut, Turning}
use Rattle.mt_turn.proofs.Facts.{none_made, nil_first, up_to_next}
use Rattle.mt_turn.proofs.Lists.{inside, same_at, at_longer_place, out_set, out_more}
use Rattle.mt_turn.proofs.Phases.{after_split}
use Rattle.std.proofs.lemmas.List.Elements.{filter-append}

module _ {E F S : Type 0} (history : S → List E) (number : E → ℕ) (fixed : S → F) (plain : F) where
  module _ (id n : ℕ) (v : View E F) (splits : v.phase ≡ SplitsOff n) (few_given : length v.gave < 2 ^ 31) (s : State (Option S) (View E F)) (r : Turning history number fixed plain s) (at : get_elem? s.views id ≡ some v) where
    abbrev seats : ℕ
    seats = length s.views

    abbrev after : List (View E F)
    after = set s.views id (giver v) ++ newcomer v ∷ []

    un : IsUnspent v.phase
    un = subst IsUnspent (sym splits) tt

    knows : Knows number plain r.log r.served r.next seats id v
    knows = r.each id v at un

    has_drawn : numbers_drawn v.phase ≡ 1
    has_drawn = ap numbers_drawn splits

    -- it is the first seat
    here : id ≡ 0
    here = let d = has_drawn in let l : 0 < id → numbers_drawn v.phase ≡ 0 = λ h. (knows.later h).2 in first_one l d
      where
        first_one : (0 < id → numbers_drawn v.phase ≡ 0) → numbers_drawn v.phase ≡ 1 → id ≡ 0
        first_one l d = grind (arith, l)

    root_is : v ≡ r.first.root
    root_is = same_at s.views 0 v r.first.root (subst (λ i. get_elem? s.views i ≡ some v) here at) r.first.place

    given : length v.gave + 1 ≡ seats
    given = ap (λ (z : View E F). length z.gave + 1) root_is ∙ r.first.all

    kept_length : length (set s.views id (giver v)) ≡ seats
    kept_length = length-set s.views id (giver v)

    one_more : length after ≡ seats + 1
    one_more = let h = kept_length in omega (arith, length-append (set s.views id (giver v)) (newcomer v ∷ []))

    -- an element of the new list: the giver, the newcomer, or one that was there
    by_place : (P : ℕ → View E F → Type 0) → P id (giver v) → P seats (newcomer v) → ((i : ℕ) (u : View E F) → i ≢ id → get_elem? s.views i ≡ some u → P i u) → (i : ℕ) (u : View E F) → get_elem? after i ≡ some u → P i u
    by_place P gives comes old i u e = ⊎_elim
        (λ (h : get_elem? (set s.views id (giver v)) i ≡ some u). ⊎_elim (λ (t : (i ≡ id) × (giver v ≡ u)). subst (λ (z : ℕ × View E F). P z.0 z.1) (λ k. (sym t.0 k, t.1 k)) gives) (λ (t : (i ≢ id) × (get_elem? s.views i ≡ some u)). old i u t.0 t.1) (at_set s.views id i (giver v) u h))
        (λ (t : (i ≡ length (set s.views id (giver v))) × (newcomer v ≡ u)). subst (λ (z : ℕ × View E F). P z.0 z.1) (λ k. (sym (t.0 ∙ kept_length) k, t.1 k)) comes)
        (at_longer_place (set s.views id (giver v)) (newcomer v) u i e)

    -- the new seat's number is in no entry yet
    fresh : entries_of number (length v.gave + 1) r.log ≡ []
    fresh = none_made number (length v.gave + 1) r.log (λ e i. subst (λ k. number e < k) (sym given) (r.entries e i))

    fresh_seen : entries_of number (length v.gave + 1) v.seen ≡ []
    fresh_seen = nil_first (entries_of number (length v.gave + 1) v.seen) (entries_of number (length v.gave + 1) knows.begins.0)
        (sym (filter-append (λ e. eqb (number e) (length v.gave + 1)) v.seen knows.begins.0) ∙ (ap (entries_of number (length v.gave + 1)) (sym knows.begins.1) ∙ fresh))

    known : (i : ℕ) (u : View E F) → get_elem? after i ≡ some u → IsUnspent u.phase → Knows number plain r.log r.served r.next (length after) i u
    known i u e = by_place (λ j z. IsUnspent z.phase → Knows number plain r.log r.served r.next (length after) j z)
        (λ _. record { own = knows.own; begins = knows.begins; mine = knows.mine; mine_seen = knows.mine_seen; same = knows.same; at = tt; later = λ l. absurd (let z = here in omega arith) })
        (λ _. record { own = given; begins = knows.begins; mine = fresh; mine_seen = fresh_seen; same = knows.same; at = tt; later = λ _. (refl, refl, refl) })
        (λ j z ne at' u'. let k = r.each j z at' u' in let later = k.later (let h = here in omega arith) in record {
          own = k.own;
          begins = k.begins;
          mine = k.mine;
          mine_seen = k.mine_seen;
          same = k.same;
          at = after_split r.log r.served r.next seats (length after) z.seen z.phase later.2 k.at;
          later = k.later;
        })
        i u e

    old_place : (P : View E F → Type 0) → (P (giver v) → ⊥) → (P (newcomer v) → ⊥) → (i : ℕ) (u : View E F) → get_elem? after i ≡ some u → P u → (i ≢ id) × (get_elem? s.views i ≡ some u)
    old_place P ng nn i u e = by_place (λ j z. P z → (j ≢ id) × (get_elem? s.views j ≡ some z)) (λ h. absurd (ng h)) (λ h. absurd (nn h)) (λ j z ne at' _. (ne, at')) i u e

    still_there : (i : ℕ) (u : View E F) → i ≢ id → get_elem? s.views i ≡ some u → get_elem? after i ≡ some u
    still_there i u ne e = at_longer (set s.views id (giver v)) (newcomer v ∷ []) i u (set_else s.views id i (giver v) ne ∙ e)

    still_taken : (j : Joined E) → Taken number r.log s.views j → Taken number r.log after j
    still_taken j t = let ne : j.number ≢ id = λ e. subst IsUnspent (ap (λ (z : View E F). z.phase) (same_at s.views id v t.gone.0 at (subst (λ i. get_elem? s.views i ≡ some t.gone.0) e t.gone.1)) ∙ t.gone.2) un in record {
      begins = t.begins;
      mine = t.mine;
      gone = (t.gone.0, still_there j.number t.gone.0 ne t.gone.1, t.gone.2);
    }

    unserved : HasSlot v.phase → ⊥
    unserved h = subst HasSlot splits h

    slot_still : AtHome history fixed plain r.log s ⊎ IsOut s → AtHome history fixed plain r.log record { words = s.words; homes = s.homes; views = after } ⊎ IsOut record { words = s.words; homes = s.homes; views = after }
    slot_still (inl h) = inl record {
      value = h.value;
      there = h.there;
      is = h.is;
      same = h.same;
      none_served = λ i u e sv. h.none_served i u (old_place (λ z. HasSlot z.phase) (λ k. k) (λ k. k) i u e sv).1 sv;
    }
    slot_still (inr o) = let b = o.by_whom in
        let ne : b.0 ≢ id = λ e. unserved (subst (λ (z : View E F). HasSlot z.phase) (same_at s.views id b.1 v (subst (λ i. get_elem? s.views i ≡ some b.1) e b.2) at) b.3) in
        inr record { empty = o.empty; by_whom = (b.0, b.1, still_there b.0 b.1 ne b.2, b.3) }

    split_off : Turning history number fixed plain record { words = s.words; homes = s.homes; views = after }
    split_off = let f = r.first in let more = one_more in let all = given in let next = f.next_number in
        let one : numbers_drawn f.root.phase ≡ 1 = ap (λ (z : View E F). numbers_drawn z.phase) (sym root_is) ∙ has_drawn in
        let none : tickets v.phase ≡ 0 = ap tickets splits in
        let outs = out_set s.views id v (giver v) at in let outs' = out_more (set s.views id (giver v)) (newcomer v) in let total = r.tickets_out in
        record {
          log = r.log;
          served = r.served;
          next = r.next;
          numbers = r.numbers;
          words = r.words;
          slot = slot_still r.slot;
          tickets_out = omega arith;
          short = r.short;
          few = omega arith;
          each = known;
          apart = λ i j t a b ea eb ha hb. r.apart i j t a b (old_place (λ z. HasTicket z.phase t) (λ k. k) (λ k. k) i a ea ha).1 (old_place (λ z. HasTicket z.phase t) (λ k. k) (λ k. k) j b eb hb).1 ha hb;
          first = record {
            root = giver v;
            place = at_longer (set s.views id (giver v)) (newcomer v ∷ []) 0 (giver v) (subst (λ i. get_elem? (set s.views i (giver v)) 0 ≡ some (giver v)) (sym here) (set_here s.views 0 (giver v) (inside s.views 0 f.root f.place)));
            unspent = tt;
            gave_is = up_to_next v.gave (subst (λ (z : View E F). z.gave ≡ up_to (length z.gave)) (sym root_is) f.gave_is);
            all = omega (arith, length-append v.gave ((length v.gave + 1) ∷ []));
            next_number = omega arith;
            taken = λ j i. still_taken j (f.taken j (subst (λ (z : View E F). Contains z.joined j) root_is i));
            own_numbers = subst (λ (z : View E F). HaveOwnNumbers z.joined) (sym root_is) f.own_numbers;
          };
          entries = λ e i. let l = r.entries e i in omega arith;
        }

  pub splits : (id n : ℕ) (v : View E F) → v.phase ≡ SplitsOff n → length v.gave < 2 ^ 31 → Splits (Turning history number fixed plain) id v (giver v) (newcomer v)
  splits id n v is few s r at = split_off id n v is few s r at
