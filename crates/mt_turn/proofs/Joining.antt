-- Joining a seat into the first one.
use Rattle.std.proofs.Common.{◌≡◌, ◌≢◌, ℕ, ◌+◌, ◌<◌, ◌⊎◌, inl, inr, ⊎_elim, List, [], ◌∷◌, ◌++◌, length, set, sym, refl, ap, ◌∙◌, subst, arith, length-set, Contains, Option}
use Rattle.std.proofs.lemmas.List.Elements.{Contains-append_cases}
use mathlib.Core.Option.{some}
use lib.ListN.{get_elem?}
use Rattle.atomic_table.specs.Table.{State, Joins}
use Rattle.atomic_table.proofs.Lists.{at_set, set_here, set_else}
use Rattle.mt_turn.specs.declared.view.Phase.TheVariants.{Idle}
use Rattle.mt_turn.specs.declared.view.Joined.{Joined}
use Rattle.mt_turn.specs.declared.view.View.{View}
use Rattle.mt_turn.specs.Views.{entries_of, longer, up_to, taker, joined_as}
use Rattle.mt_turn.specs.Private.Views.{spent}
use Rattle.mt_turn.specs.Lending.{HaveOwnNumbers}
use Rattle.mt_turn.specs.Private.Turning.{IsUnspent, HasTicket, HasSlot, tickets, numbers_drawn, IsInPhase, Knows, Taken, AtHome, IsOut, Turning}
use Rattle.mt_turn.proofs.Facts.{longer_goes, longer_same, only_there}
use Rattle.mt_turn.proofs.Lists.{contained, inside, at_longer_place, same_at, out_set}

module _ {E F S : Type 0} (history : S → List E) (number : E → ℕ) (fixed : S → F) (plain : F) where
  module _ (id other : ℕ) (v w : View E F) (idle : v.phase ≡ Idle) (zeroth : v.number ≡ 0) (idle' : w.phase ≡ Idle) (s : State (Option S) (View E F)) (r : Turning history number fixed plain s) (at : get_elem? s.views id ≡ some v)
      (apart : other ≢ id) (at'' : get_elem? (set s.views id (taker v w)) other ≡ some w) where
    abbrev between : List (View E F)
    between = set s.views id (taker v w)

    abbrev after : List (View E F)
    after = set between other spent

    at' : get_elem? s.views other ≡ some w
    at' = sym (set_else s.views id other (taker v w) apart) ∙ at''

    un : IsUnspent v.phase
    un = subst IsUnspent (sym idle) tt

    un' : IsUnspent w.phase
    un' = subst IsUnspent (sym idle') tt

    knows : Knows number plain r.log r.served r.next (length s.views) id v
    knows = r.each id v at un

    knows' : Knows number plain r.log r.served r.next (length s.views) other w
    knows' = r.each other w at' un'

    here : id ≡ 0
    here = sym knows.own ∙ zeroth

    root_is : v ≡ r.first.root
    root_is = same_at s.views 0 v r.first.root (subst (λ i. get_elem? s.views i ≡ some v) here at) r.first.place

    kept_length : length after ≡ length s.views
    kept_length = length-set between other spent ∙ length-set s.views id (taker v w)

    -- an element of the new list: the taker, the spent view, or one that was there
    by_place : (P : ℕ → View E F → Type 0) → P id (taker v w) → P other spent → ((i : ℕ) (u : View E F) → i ≢ id → i ≢ other → get_elem? s.views i ≡ some u → P i u) → (i : ℕ) (u : View E F) → get_elem? after i ≡ some u → P i u
    by_place P takes goes old i u e = ⊎_elim
        (λ (t : (i ≡ other) × (spent ≡ u)). subst (λ (z : ℕ × View E F). P z.0 z.1) (λ k. (sym t.0 k, t.1 k)) goes)
        (λ (t : (i ≢ other) × (get_elem? between i ≡ some u)). ⊎_elim
        (λ (h : (i ≡ id) × (taker v w ≡ u)). subst (λ (z : ℕ × View E F). P z.0 z.1) (λ k. (sym h.0 k, h.1 k)) takes)
        (λ (h : (i ≢ id) × (get_elem? s.views i ≡ some u)). old i u h.0 t.0 h.1)
        (at_set s.views id i (taker v w) u t.1))
        (at_set between other i spent u e)

    same_seen : entries_of number v.number (longer v.seen w.seen) ≡ v.mine
    same_seen = longer_same number v.number v.seen w.seen r.log knows.begins knows'.begins (knows.mine_seen ∙ sym knows.mine) ∙ knows.mine

    known : (i : ℕ) (u : View E F) → get_elem? after i ≡ some u → IsUnspent u.phase → Knows number plain r.log r.served r.next (length after) i u
    known i u e un'' = subst (λ n. Knows number plain r.log r.served r.next n i u) (sym kept_length)
        (by_place (λ j z. IsUnspent z.phase → Knows number plain r.log r.served r.next (length s.views) j z)
        (λ _. record {
          own = knows.own;
          begins = longer_goes v.seen w.seen r.log knows.begins knows'.begins;
          mine = knows.mine;
          mine_seen = same_seen;
          same = knows.same;
          at = subst (λ p. IsInPhase r.log r.served r.next (length s.views) (longer v.seen w.seen) p) (sym idle) tt;
          later = λ l. absurd (let z = here in omega arith);
        })
        (λ n. absurd n) (λ j z _ _ e' n. r.each j z e' n) i u e un'')

    old_place : (P : View E F → Type 0) → (P (taker v w) → ⊥) → (P spent → ⊥) → (i : ℕ) (u : View E F) → get_elem? after i ≡ some u → P u → get_elem? s.views i ≡ some u
    old_place P nt ns i u e = by_place (λ j z. P z → get_elem? s.views j ≡ some z) (λ h. absurd (nt h)) (λ h. absurd (ns h)) (λ j z _ _ e' _. e') i u e

    still_there : (i : ℕ) (u : View E F) → i ≢ id → i ≢ other → get_elem? s.views i ≡ some u → get_elem? after i ≡ some u
    still_there i u ni no_other e = set_else between other i spent no_other ∙ (set_else s.views id i (taker v w) ni ∙ e)

    not_at : (k : ℕ) (a z : View E F) → get_elem? s.views k ≡ some a → IsUnspent a.phase → (i : ℕ) → get_elem? s.views i ≡ some z → (IsUnspent z.phase → ⊥) → i ≢ k
    not_at k a z ea ua i ez nz e = nz (subst (λ (y : View E F). IsUnspent y.phase) (same_at s.views k a z ea (subst (λ j. get_elem? s.views j ≡ some z) e ez)) ua)

    still_taken : (j : Joined E) → Taken number r.log s.views j → Taken number r.log after j
    still_taken j t = let ns : IsUnspent t.gone.0.phase → ⊥ = λ h. subst IsUnspent t.gone.2 h in record {
      begins = t.begins;
      mine = t.mine;
      gone = (t.gone.0, still_there j.number t.gone.0 (not_at id v t.gone.0 at un j.number t.gone.1 ns) (not_at other w t.gone.0 at' un' j.number t.gone.1 ns) t.gone.1, t.gone.2);
    }

    new_taken : Taken number r.log after (joined_as w)
    new_taken = record {
      begins = knows'.begins;
      mine = knows'.mine;
      gone = (spent, subst (λ i. get_elem? after i ≡ some spent) (sym knows'.own) (set_here between other spent (inside between other w at'')), refl);
    }

    all_taken : (j : Joined E) → Contains (v.joined ++ joined_as w ∷ []) j → Taken number r.log after j
    all_taken j i = ⊎_elim (λ (h : Contains v.joined j). still_taken j (r.first.taken j (subst (λ (z : View E F). Contains z.joined j) root_is h)))
        (λ (h : Contains (joined_as w ∷ []) j). subst (λ (z : Joined E). Taken number r.log after z) (only_there (joined_as w) j h) new_taken) (Contains-append_cases v.joined (joined_as w ∷ []) j i)

    was_own : HaveOwnNumbers v.joined
    was_own = subst (λ (z : View E F). HaveOwnNumbers z.joined) (sym root_is) r.first.own_numbers

    -- the seat that is joined now was none of those before, which are spent
    new_number : (i : ℕ) (j : Joined E) → get_elem? v.joined i ≡ some j → j.number ≢ w.number
    new_number i j e same = let t = r.first.taken j (subst (λ (z : View E F). Contains z.joined j) root_is (contained v.joined i j e)) in
        let ns : IsUnspent t.gone.0.phase → ⊥ = λ h. subst IsUnspent t.gone.2 h in
        not_at other w t.gone.0 at' un' j.number t.gone.1 ns (same ∙ knows'.own)

    all_own : HaveOwnNumbers (v.joined ++ joined_as w ∷ [])
    all_own i j a b ea eb same = ⊎_elim
        (λ (p : get_elem? v.joined i ≡ some a). ⊎_elim (λ (q : get_elem? v.joined j ≡ some b). was_own i j a b p q same)
        (λ (q : (j ≡ length v.joined) × (joined_as w ≡ b)). absurd (new_number i a p (same ∙ ap (λ (z : Joined E). z.number) (sym q.1)))) (at_longer_place v.joined (joined_as w) b j eb))
        (λ (p : (i ≡ length v.joined) × (joined_as w ≡ a)). ⊎_elim
        (λ (q : get_elem? v.joined j ≡ some b). absurd (new_number j b q (sym same ∙ ap (λ (z : Joined E). z.number) (sym p.1))))
        (λ (q : (j ≡ length v.joined) × (joined_as w ≡ b)). p.0 ∙ sym q.0) (at_longer_place v.joined (joined_as w) b j eb))
        (at_longer_place v.joined (joined_as w) a i ea)

    no_ticket : (t : ℕ) → HasTicket v.phase t → ⊥
    no_ticket t h = subst (λ p. HasTicket p t) idle h

    unserved : HasSlot v.phase → ⊥
    unserved h = subst HasSlot idle h

    unserved' : HasSlot w.phase → ⊥
    unserved' h = subst HasSlot idle' h

    not_served_at : (k : ℕ) (a z : View E F) → get_elem? s.views k ≡ some a → (HasSlot a.phase → ⊥) → (i : ℕ) → get_elem? s.views i ≡ some z → HasSlot z.phase → i ≢ k
    not_served_at k a z ea na i ez sv e = na (subst (λ (y : View E F). HasSlot y.phase) (sym (same_at s.views k a z ea (subst (λ j. get_elem? s.views j ≡ some z) e ez))) sv)

    slot_still : AtHome history fixed plain r.log s ⊎ IsOut s → AtHome history fixed plain r.log record { words = s.words; homes = s.homes; views = after } ⊎ IsOut record { words = s.words; homes = s.homes; views = after }
    slot_still (inl h) = inl record {
      value = h.value;
      there = h.there;
      is = h.is;
      same = h.same;
      none_served = λ i u e sv. h.none_served i u (old_place (λ z. HasSlot z.phase) unserved (λ k. k) i u e sv) sv;
    }
    slot_still (inr o) = let b = o.by_whom in
        inr record { empty = o.empty; by_whom = (b.0, b.1, still_there b.0 b.1 (not_served_at id v b.1 at unserved b.0 b.2 b.3) (not_served_at other w b.1 at' unserved' b.0 b.2 b.3) b.2, b.3) }

    joined : Turning history number fixed plain record { words = s.words; homes = s.homes; views = after }
    joined = let f = r.first in let len = kept_length in let few = r.few in let total = r.tickets_out in
        let none : tickets v.phase ≡ 0 = ap tickets idle in let none' : tickets w.phase ≡ 0 = ap tickets idle' in
        let outs = out_set s.views id v (taker v w) at in let outs' = out_set between other w spent at'' in
        record {
          log = r.log;
          served = r.served;
          next = r.next;
          numbers = r.numbers;
          words = r.words;
          slot = slot_still r.slot;
          tickets_out = omega arith;
          short = r.short;
          few = omega arith;
          each = known;
          apart = λ i j t a b ea eb ha hb. r.apart i j t a b (old_place (λ z. HasTicket z.phase t) (no_ticket t) (λ k. k) i a ea ha) (old_place (λ z. HasTicket z.phase t) (no_ticket t) (λ k. k) j b eb hb) ha hb;
          first = record {
            root = taker v w;
            place = set_else between other 0 spent (λ e. apart (sym e ∙ sym here)) ∙ subst (λ i. get_elem? (set s.views i (taker v w)) 0 ≡ some (taker v w)) (sym here) (set_here s.views 0 (taker v w) (inside s.views 0 f.root f.place));
            unspent = un;
            gave_is = subst (λ (z : View E F). z.gave ≡ up_to (length z.gave)) (sym root_is) f.gave_is;
            all = ap (λ (z : View E F). length z.gave + 1) root_is ∙ (f.all ∙ sym kept_length);
            next_number = f.next_number ∙ (ap (λ (z : View E F). length s.views + numbers_drawn z.phase) (sym root_is) ∙ ap (λ n. n + numbers_drawn v.phase) (sym kept_length));
            taken = all_taken;
            own_numbers = all_own;
          };
          entries = λ e i. subst (λ n. number e < n) (sym kept_length) (r.entries e i);
        }

  pub joins : (id other : ℕ) (v w : View E F) → v.phase ≡ Idle → v.number ≡ 0 → w.phase ≡ Idle → Joins (Turning history number fixed plain) id v other w (taker v w) spent
  joins id other v w idle zeroth idle' s r at apart at' = joined id other v w idle zeroth idle' s r at apart at'
