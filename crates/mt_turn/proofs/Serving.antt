-- Counting the entries that were added, and passing the turn on.
use Rattle.std.proofs.Common.{◌≡◌, ◌≢◌, ℕ, ◌+◌, ◌%◌, ◌^◌, ◌<◌, ◌≤◌, inl, inr, ⊎_elim, List, [], ◌∷◌, length, get_or, set, sym, refl, ap, ◌∙◌, subst, subst₂, arith, mod-eq_of_lt, Option, Some, None}
use Rattle.std.proofs.Math.Nat.{mod-add-mod}
use mathlib.Core.Option.{some}
use lib.ListN.{get_elem?}
use Rattle.atomic_table.specs.Table.{State, keeps, gives, Allows, put_back}
use Rattle.atomic_table.proofs.Lists.{at_set, set_here}
use Rattle.mt_turn.specs.declared.view.Phase.{Phase}
use Rattle.mt_turn.specs.declared.view.Phase.TheVariants.{Idle, Holds, Counted}
use Rattle.mt_turn.specs.declared.view.View.{View}
use Rattle.mt_turn.specs.Views.{entries_of, Extends, with_phase}
use Rattle.mt_turn.specs.Lending.{Grows}
use Rattle.mt_turn.specs.Private.Turning.{IsUnspent, HasTicket, HasSlot, tickets, numbers_drawn, IsInPhase, AtHome, IsOut, Turning}
use Rattle.mt_turn.specs.Private.Steps.{Seated, counted_view, SeesHistory, HandsOn}
use Rattle.mt_turn.proofs.Facts.{goes_self, goes_trans, grows_goes, grows_other, grows_entries}
use Rattle.mt_turn.proofs.Lists.{inside, out_set}
use Rattle.mt_turn.proofs.Phases.{served_unspent, served_ticket, after_count, after_pass}
use Rattle.mt_turn.proofs.Moves.{moved}

-- what lies in the slot that a seat has taken, or `other`
abbrev value_in : {S : Type 0} → S → List (ℕ × Option S) → S
value_in other ((k, Some x) ∷ xs) = x
value_in other _ = other

same_value : {S : Type 0} (x y : S) (cs : List (ℕ × Option S)) → cs ≡ (0, Some x) ∷ [] → cs ≡ (0, Some y) ∷ [] → x ≡ y
same_value x y cs e f = ap (value_in x) (sym e ∙ f)

abbrev plain_in : {F : Type 0} → F → Option F → F
plain_in other (Some x) = x
plain_in other None = other

pub same_some : {F : Type 0} (x y : F) → Some x ≡ Some y → x ≡ y
same_some x y e = ap (plain_in x) e

abbrev lent_in : {E : Type 0} → List E → Phase E → List E
lent_in other (Holds t lent) = lent
lent_in other _ = other

same_lent : {E : Type 0} (t t' : ℕ) (a b : List E) (p : Phase E) → p ≡ Holds t a → p ≡ Holds t' b → a ≡ b
same_lent t t' a b p e f = ap (lent_in a) (sym e ∙ f)

module _ {E F S : Type 0} (history : S → List E) (number : E → ℕ) (fixed : S → F) (plain : F) where
  abbrev Rule : State (Option S) (View E F) → Type 0
  Rule = Turning history number fixed plain

  -- no other seat has the turn
  others_wait : (s : State (Option S) (View E F)) (r : Rule s) (id : ℕ) (v : View E F) → get_elem? s.views id ≡ some v → HasSlot v.phase → (j : ℕ) (u : View E F) → j ≢ id → get_elem? s.views j ≡ some u → HasSlot u.phase → ⊥
  others_wait s r id v at sv j u other e su = let k = r.each id v at (served_unspent v.phase sv) in let k' = r.each j u e (served_unspent u.phase su) in
      other (r.apart j id r.served u v e at (served_ticket r.log r.served r.next (length s.views) u.seen u.phase su k'.at) (served_ticket r.log r.served r.next (length s.views) v.seen v.phase sv k.at))

  pub counts : (slots id t added : ℕ) (y : S) (lent : List E) (m : Seated E F S) → m.0.phase ≡ Holds t lent → m.1 ≡ (0, Some y) ∷ []
      → Grows number m.0.number lent (history y) → length lent + added ≡ length (history y) → length (history y) ≤ 2 ^ 32
      → Allows Rule slots id m 2 (λ n. (n + added) % 2 ^ 64) (SeesHistory history number m)
  counts slots id t added y lent m holds has grows more room s r _ at _ =
      let w : View E F = counted_view number m.0 t (history y) in
      let un : IsUnspent m.0.phase = subst IsUnspent (sym holds) tt in
      let served : HasSlot m.0.phase = subst HasSlot (sym holds) tt in
      let k = r.each id m.0 at un in
      let phase : (t ≡ r.served) × (t < r.next) × (lent ≡ r.log) = subst (IsInPhase r.log r.served r.next (length s.views) m.0.seen) holds k.at in
      let my_ticket : HasTicket m.0.phase t = subst (λ p. HasTicket p t) (sym holds) refl in
      let grown : Grows number m.0.number r.log (history y) = subst (λ l. Grows number m.0.number l (history y)) phase.2 grows in
      let goes = grows_goes number m.0.number r.log (history y) grown in
      let counted = out_set s.views id m.0 w at in
      let one : tickets m.0.phase ≡ 1 = ap tickets holds in
      let total = r.tickets_out in
      let was : length lent ≡ length r.log = ap length phase.2 in
      let within : (length r.log + added) % 2 ^ 64 ≡ length (history y) = mod-eq_of_lt (omega arith) ∙ (ap (λ n. n + added) (sym was) ∙ more) in (
        w,
        keeps,
        tt,
        moved history number fixed plain s r id m.0 w (history y) r.served r.next r.numbers (set s.words 2 ((get_or s.words 2 0 + added) % 2 ^ 64)) s.homes record {
          at = at;
          unspent = un;
          stays = tt;
          mine = record {
            own = k.own;
            begins = goes_self (history y);
            mine = refl;
            mine_seen = refl;
            same = k.same;
            at = (phase.0, phase.1, refl);
            later = λ l. let o = k.later l in (o.0, o.1, refl);
          };
          goes = goes;
          others_entries = λ n other. grows_other number m.0.number n r.log (history y) grown (λ e. other (sym e ∙ k.own));
          others_at = λ j u other e un'. after_count r.log (history y) r.served r.next (length s.views) u.seen u.phase (others_wait s r id m.0 at served j u other e) (r.each j u e un').at;
          alone = λ j n u other e a b. other (r.apart j id t u m.0 e at (subst (HasTicket u.phase) (sym a) b) my_ticket);
          tickets_out = omega arith;
          short = room;
          entries = grows_entries number m.0.number (length s.views) r.log (history y) grown (subst (λ n. n < length s.views) (sym k.own) (inside s.views id m.0 at)) r.entries;
          gave_same = refl;
          joined_same = refl;
          drawn_same = ap (λ p. r.numbers + numbers_drawn p) holds;
          words = subst (λ ws. set ws 2 ((get_or ws 2 0 + added) % 2 ^ 64) ≡ r.next % 2 ^ 64 ∷ r.served % 2 ^ 64 ∷ length (history y) ∷ r.numbers ∷ []) (sym r.words)
              (ap (λ n. r.next % 2 ^ 64 ∷ r.served % 2 ^ 64 ∷ n ∷ r.numbers ∷ []) within);
          slot = ⊎_elim (λ (h : AtHome history fixed plain r.log s). absurd (h.none_served id m.0 at served))
              (λ (o : IsOut s). inr record { empty = o.empty; by_whom = (id, w, set_here s.views id w (inside s.views id m.0 at), tt) }) r.slot;
        },
        λ y' t' lent' has' holds'. (
          ap (λ (z : ℕ × S). (counted_view number m.0 z.0 (history z.1), m.1)) (λ i. (subst (λ p. HasTicket p t') holds (subst (λ p. HasTicket p t') (sym holds') refl) i, same_value y y' m.1 has has' i)),
          ap (entries_of number m.0.number) (sym (same_lent t t' lent lent' m.0.phase holds holds') ∙ phase.2) ∙ k.mine,
          subst (λ z. Extends m.0.seen (history z)) (same_value y y' m.1 has has') (goes_trans m.0.seen r.log (history y) k.begins goes),
        ),
      )

  pub passes : (slots id t : ℕ) (y : S) (m : Seated E F S) → m.0.phase ≡ Counted t → m.1 ≡ (0, Some y) ∷ [] → history y ≡ m.0.seen → Some (fixed y) ≡ m.0.fixed
      → Allows Rule slots id m 1 (λ n. (n + 1) % 2 ^ 64) (HandsOn m)
  passes slots id t y m counted has is same s r _ at _ =
      let w : View E F = with_phase m.0 Idle in
      let un : IsUnspent m.0.phase = subst IsUnspent (sym counted) tt in
      let served : HasSlot m.0.phase = subst HasSlot (sym counted) tt in
      let k = r.each id m.0 at un in
      let phase : (t ≡ r.served) × (t < r.next) × (m.0.seen ≡ r.log) = subst (IsInPhase r.log r.served r.next (length s.views) m.0.seen) counted k.at in
      let my_ticket : HasTicket m.0.phase r.served = served_ticket r.log r.served r.next (length s.views) m.0.seen m.0.phase served k.at in
      let outs = out_set s.views id m.0 w at in
      let one : tickets m.0.phase ≡ 1 = ap tickets counted in
      let total = r.tickets_out in (
        w,
        gives,
        tt,
        moved history number fixed plain s r id m.0 w r.log (r.served + 1) r.next r.numbers (set s.words 1 ((get_or s.words 1 0 + 1) % 2 ^ 64)) (put_back s.homes m.1) record {
          at = at;
          unspent = un;
          stays = tt;
          mine = record {
            own = k.own;
            begins = k.begins;
            mine = k.mine;
            mine_seen = k.mine_seen;
            same = k.same;
            at = tt;
            later = λ l. let o = k.later l in (o.0, o.1, refl);
          };
          goes = goes_self r.log;
          others_entries = λ _ _. refl;
          others_at = λ j u other e un'. after_pass r.log r.served r.next (length s.views) u.seen u.phase (λ h. other (r.apart j id r.served u m.0 e at h my_ticket)) (r.each j u e un').at;
          alone = λ j n u other e a b. a;
          tickets_out = omega arith;
          short = r.short;
          entries = r.entries;
          gave_same = refl;
          joined_same = refl;
          drawn_same = ap (λ p. r.numbers + numbers_drawn p) counted;
          words = subst (λ ws. set ws 1 ((get_or ws 1 0 + 1) % 2 ^ 64) ≡ r.next % 2 ^ 64 ∷ (r.served + 1) % 2 ^ 64 ∷ length r.log ∷ r.numbers ∷ []) (sym r.words)
              (ap (λ n. r.next % 2 ^ 64 ∷ n ∷ length r.log ∷ r.numbers ∷ []) (mod-add-mod r.served (2 ^ 64) 1));
          slot = ⊎_elim (λ (h : AtHome history fixed plain r.log s). absurd (h.none_served id m.0 at served))
              (λ (o : IsOut s). inl record {
                value = y;
                there = subst₂ (λ hs cs. put_back hs cs ≡ some (Some y) ∷ []) (sym o.empty) (sym has) refl;
                is = is ∙ phase.2;
                same = same_some (fixed y) plain (same ∙ k.same);
                none_served = λ i u e sv. ⊎_elim (λ (p : (i ≡ id) × (w ≡ u)). subst (λ (z : View E F). HasSlot z.phase) (sym p.1) sv)
                    (λ (p : (i ≢ id) × (get_elem? s.views i ≡ some u)). others_wait s r id m.0 at served i u p.0 p.1 sv) (at_set s.views id i w u e);
              }) r.slot;
        },
        refl,
      )
