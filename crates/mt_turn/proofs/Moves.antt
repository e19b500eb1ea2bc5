-- What a step of one seat has to show, so that the rule holds after it.
use Rattle.std.proofs.Common.{◌≡◌, ◌≢◌, ℕ, ◌+◌, ◌%◌, ◌^◌, ◌<◌, ◌≤◌, ◌⊎◌, inl, inr, ⊎_elim, List, [], ◌∷◌, length, set, sym, ap, ◌∙◌, subst, arith, length-set, Contains, Option}
use mathlib.Core.Logic.{dite}
use mathlib.Core.Option.{some}
use native.Mathlib.Decide.{ℕ_discrete}
use lib.ListN.{get_elem?}
use Rattle.atomic_table.specs.Table.{State}
use Rattle.atomic_table.proofs.Lists.{at_set, set_here, set_else}
use Rattle.mt_turn.specs.declared.view.Joined.{Joined}
use Rattle.mt_turn.specs.declared.view.View.{View}
use Rattle.mt_turn.specs.Views.{entries_of, Extends, up_to}
use Rattle.mt_turn.specs.Lending.{HaveOwnNumbers}
use Rattle.mt_turn.specs.Private.Turning.{IsUnspent, HasTicket, HasSlot, numbers_drawn, IsInPhase, out, Knows, Taken, Rooted, AtHome, IsOut, Turning}
use Rattle.mt_turn.proofs.Facts.{goes_trans}
use Rattle.mt_turn.proofs.Lists.{inside, same_at}

module _ {E F S : Type 0} (history : S → List E) (number : E → ℕ) (fixed : S → F) (plain : F) where
  -- the seat id knew v, and will know w; then the history is log', and so on
  pub record Moves (s : State (Option S) (View E F)) (r : Turning history number fixed plain s) (id : ℕ) (v w : View E F) (log' : List E) (served' next' numbers' : ℕ) (words' : List ℕ) (homes' : List (mathlib.Core.Option.Option (Option S))) : Type 0 where
    pub at : get_elem? s.views id ≡ some v
    pub unspent : IsUnspent v.phase
    pub stays : IsUnspent w.phase
    pub mine : Knows number plain log' served' next' (length s.views) id w
    pub goes : Extends r.log log'
    pub others_entries : (k : ℕ) → k ≢ id → entries_of number k log' ≡ entries_of number k r.log
    pub others_at : (j : ℕ) (u : View E F) → j ≢ id → get_elem? s.views j ≡ some u → IsUnspent u.phase → IsInPhase log' served' next' (length s.views) u.seen u.phase
    pub alone : (j t : ℕ) (u : View E F) → j ≢ id → get_elem? s.views j ≡ some u → HasTicket w.phase t → HasTicket u.phase t → ⊥
    pub tickets_out : served' + out (set s.views id w) ≡ next'
    pub short : length log' ≤ 2 ^ 32
    pub entries : (e : E) → Contains log' e → number e < length s.views
    pub gave_same : w.gave ≡ v.gave
    pub joined_same : w.joined ≡ v.joined
    pub drawn_same : numbers' + numbers_drawn v.phase ≡ r.numbers + numbers_drawn w.phase
    pub words : words' ≡ next' % 2 ^ 64 ∷ served' % 2 ^ 64 ∷ length log' ∷ numbers' ∷ []
    pub slot : AtHome history fixed plain log' record { words = words'; homes = homes'; views = set s.views id w } ⊎ IsOut {S = S} record { words = words'; homes = homes'; views = set s.views id w }

  module _ (s : State (Option S) (View E F)) (r : Turning history number fixed plain s) (id : ℕ) (v w : View E F) (log' : List E) (served' next' numbers' : ℕ) (words' : List ℕ) (homes' : List (mathlib.Core.Option.Option (Option S)))
      (m : Moves s r id v w log' served' next' numbers' words' homes') where
    abbrev after : List (View E F)
    after = set s.views id w

    long : length after ≡ length s.views
    long = length-set s.views id w

    known : (i : ℕ) (u : View E F) → get_elem? after i ≡ some u → IsUnspent u.phase → Knows number plain log' served' next' (length after) i u
    known i u e un = subst (λ n. Knows number plain log' served' next' n i u) (sym long) (⊎_elim
        (λ (t : (i ≡ id) × (w ≡ u)). subst (λ (z : ℕ × View E F). Knows number plain log' served' next' (length s.views) z.0 z.1) (λ k. (sym t.0 k, t.1 k)) m.mine)
        (λ (t : (i ≢ id) × (get_elem? s.views i ≡ some u)). let k = r.each i u t.1 un in record {
          own = k.own;
          begins = goes_trans u.seen r.log log' k.begins m.goes;
          mine = m.others_entries u.number (λ h. t.0 (sym k.own ∙ h)) ∙ k.mine;
          mine_seen = k.mine_seen;
          same = k.same;
          at = m.others_at i u t.0 t.1 un;
          later = k.later;
        })
        (at_set s.views id i w u e))

    apart' : (i j t : ℕ) (a b : View E F) → get_elem? after i ≡ some a → get_elem? after j ≡ some b → HasTicket a.phase t → HasTicket b.phase t → i ≡ j
    apart' i j t a b ea eb ha hb = ⊎_elim
        (λ (p : (i ≡ id) × (w ≡ a)). ⊎_elim (λ (q : (j ≡ id) × (w ≡ b)). p.0 ∙ sym q.0)
        (λ (q : (j ≢ id) × (get_elem? s.views j ≡ some b)). absurd (m.alone j t b q.0 q.1 (subst (λ (z : View E F). HasTicket z.phase t) (sym p.1) ha) hb)) (at_set s.views id j w b eb))
        (λ (p : (i ≢ id) × (get_elem? s.views i ≡ some a)). ⊎_elim (λ (q : (j ≡ id) × (w ≡ b)). absurd (m.alone i t a p.0 p.1 (subst (λ (z : View E F). HasTicket z.phase t) (sym q.1) hb) ha))
        (λ (q : (j ≢ id) × (get_elem? s.views j ≡ some b)). r.apart i j t a b p.1 q.1 ha hb) (at_set s.views id j w b eb))
        (at_set s.views id i w a ea)

    still_taken : (j : Joined E) → Taken number r.log s.views j → Taken number log' after j
    still_taken j t = let ne : j.number ≢ id = λ e. subst IsUnspent (ap (λ (z : View E F). z.phase) (same_at s.views id v t.gone.0 m.at (subst (λ i. get_elem? s.views i ≡ some t.gone.0) e t.gone.1)) ∙ t.gone.2) m.unspent in record {
      begins = goes_trans j.seen r.log log' t.begins m.goes;
      mine = m.others_entries j.number ne ∙ t.mine;
      gone = (t.gone.0, set_else s.views id j.number w ne ∙ t.gone.1, t.gone.2);
    }

    rooted_here : id ≡ 0 → Rooted number log' numbers' after
    rooted_here z = let f = r.first in let is : v ≡ f.root = same_at s.views 0 v f.root (subst (λ i. get_elem? s.views i ≡ some v) z m.at) f.place in
        let gave : w.gave ≡ f.root.gave = m.gave_same ∙ ap (λ (z : View E F). z.gave) is in
        let joined : w.joined ≡ f.root.joined = m.joined_same ∙ ap (λ (z : View E F). z.joined) is in
        let drawn_is : numbers_drawn v.phase ≡ numbers_drawn f.root.phase = ap (λ (z : View E F). numbers_drawn z.phase) is in
        let was = f.next_number in let same = m.drawn_same in let len = long in
        record {
          root = w;
          place = subst (λ i. get_elem? (set s.views i w) 0 ≡ some w) (sym z) (set_here s.views 0 w (inside s.views 0 f.root f.place));
          unspent = m.stays;
          gave_is = subst (λ g. g ≡ up_to (length g)) (sym gave) f.gave_is;
          all = ap (λ g. length g + 1) gave ∙ (f.all ∙ sym long);
          next_number = omega arith;
          taken = λ j i. still_taken j (f.taken j (subst (λ js. Contains js j) joined i));
          own_numbers = subst HaveOwnNumbers (sym joined) f.own_numbers;
        }

    rooted_else : id ≢ 0 → Rooted number log' numbers' after
    rooted_else ne = let f = r.first in let k = (r.each id v m.at m.unspent).later (omega arith) in let k' = m.mine.later (omega arith) in let dv = k.2 in let dw = k'.2 in
        let was = f.next_number in let same = m.drawn_same in let len = long in
        record {
          root = f.root;
          place = set_else s.views id 0 w (λ e. ne (sym e)) ∙ f.place;
          unspent = f.unspent;
          gave_is = f.gave_is;
          all = f.all ∙ sym long;
          next_number = omega arith;
          taken = λ j i. still_taken j (f.taken j i);
          own_numbers = f.own_numbers;
        }

    pub moved : Turning history number fixed plain record { words = words'; homes = homes'; views = set s.views id w }
    moved = let few = r.few in let len = long in record {
      log = log';
      served = served';
      next = next';
      numbers = numbers';
      words = m.words;
      slot = m.slot;
      tickets_out = m.tickets_out;
      short = m.short;
      few = omega arith;
      each = known;
      apart = apart';
      first = dite (ℕ_discrete id 0) rooted_here rooted_else;
      entries = λ e i. subst (λ n. number e < n) (sym long) (m.entries e i);
    }

  -- the slot stays as it is, where the seat has it neither before nor after
  pub slot_stays : (s : State (Option S) (View E F)) (log : List E) (id : ℕ) (v w : View E F) (words' : List ℕ) → get_elem? s.views id ≡ some v → (HasSlot v.phase → ⊥) → (HasSlot w.phase → ⊥)
      → AtHome history fixed plain log s ⊎ IsOut s → AtHome history fixed plain log record { words = words'; homes = s.homes; views = set s.views id w } ⊎ IsOut record { words = words'; homes = s.homes; views = set s.views id w }
  slot_stays s log id v w words' at nv nw (inl h) = inl record {
    value = h.value;
    there = h.there;
    is = h.is;
    same = h.same;
    none_served = λ i u e sv. ⊎_elim (λ (t : (i ≡ id) × (w ≡ u)). nw (subst (λ (z : View E F). HasSlot z.phase) (sym t.1) sv)) (λ (t : (i ≢ id) × (get_elem? s.views i ≡ some u)). h.none_served i u t.1 sv) (at_set s.views id i w u e);
  }
  slot_stays s log id v w words' at nv nw (inr o) = let b = o.by_whom in
      let ne : b.0 ≢ id = λ e. nv (subst (λ (z : View E F). HasSlot z.phase) (same_at s.views id b.1 v (subst (λ i. get_elem? s.views i ≡ some b.1) e b.2) at) b.3) in
      inr record { empty = o.empty; by_whom = (b.0, b.1, set_else s.views id b.0 w ne ∙ b.2, b.3) }
