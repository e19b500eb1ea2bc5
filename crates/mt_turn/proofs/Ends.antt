-- The rule at the start, and what it says at the end.
use Rattle.std.proofs.Common.{◌≡◌, ℕ, ◌<◌, ◌⊎◌, inl, inr, List, [], ◌∷◌, length, sym, refl, ap, ◌∙◌, subst, arith, zero, suc, Contains, Option, Some}
use mathlib.Core.Logic.{dite}
use mathlib.Core.Option.{some, some-injective, some-ne-none}
use native.Mathlib.Decide.{ℕ_discrete}
use lib.ListN.{get_elem?}
use Rattle.atomic_table.specs.Table.{State, opening, Final, Seen}
use Rattle.mt_turn.specs.declared.view.Phase.TheVariants.{Idle}
use Rattle.mt_turn.specs.declared.view.Joined.{Joined}
use Rattle.mt_turn.specs.declared.view.View.{View}
use Rattle.mt_turn.specs.Views.{entries_of, up_to, first_view}
use Rattle.mt_turn.specs.Lending.{HaveOwnNumbers, IsJoined, AllJoined, ClosesHistory}
use Rattle.mt_turn.specs.Private.Turning.{IsUnspent, HasTicket, HasSlot, Knows, Taken, AtHome, IsOut, Turning}
use Rattle.mt_turn.proofs.Facts.{goes_self, up_to_has}
use Rattle.mt_turn.proofs.Lists.{inside, same_at}
use Rattle.mt_turn.proofs.Serving.{same_some}

one_place : {A : Type 0} (P : ℕ → A → Type 0) (a : A) → P 0 a → (i : ℕ) (b : A) → get_elem? (a ∷ []) i ≡ some b → P i b
one_place P a p zero b e = subst (P 0) (some-injective a b e) p
one_place P a p (suc i) b e = absurd (some-ne-none b (sym e))

none_contained : {A : Type 0} (a : A) → Contains [] a → ⊥
none_contained a h = let l = h.1 in omega arith

module _ {E F S : Type 0} (history : S → List E) (number : E → ℕ) (fixed : S → F) where
  pub opens : (x : S) → history x ≡ [] → Turning history number fixed (fixed x) (opening (0 ∷ 0 ∷ 0 ∷ 1 ∷ []) (Some x ∷ []) (first_view (fixed x)))
  opens x empty = record {
    log = [];
    served = 0;
    next = 0;
    numbers = 1;
    words = refl;
    slot = inl record {
      value = x;
      there = refl;
      is = empty;
      same = refl;
      none_served = λ i v e sv. one_place (λ (_ : ℕ) (z : View E F). HasSlot z.phase → ⊥) (first_view (fixed x)) (λ h. h) i v e sv;
    };
    tickets_out = refl;
    short = omega arith;
    few = omega arith;
    each = λ i v e _. one_place (λ (j : ℕ) (z : View E F). Knows number (fixed x) [] 0 0 1 j z) (first_view (fixed x))
        record { own = refl; begins = goes_self []; mine = refl; mine_seen = refl; same = refl; at = tt; later = λ _. (refl, refl, refl) } i v e;
    apart = λ i j t v w ev ew hv hw. absurd (one_place (λ (_ : ℕ) (z : View E F). HasTicket z.phase t → ⊥) (first_view (fixed x)) (λ h. h) i v ev hv);
    first = record { root = first_view (fixed x); place = refl; unspent = tt; gave_is = refl; all = refl; next_number = refl; taken = λ j h. absurd (none_contained j h); own_numbers = λ i j a b e _ _. absurd (some-ne-none a (sym e)) };
    entries = λ e h. absurd (none_contained e h);
  }

  module _ (plain : F) (id : ℕ) (v : View E F) (zeroth : v.number ≡ 0) (idle : v.phase ≡ Idle) (all : AllJoined v) (s : State (Option S) (View E F)) (r : Turning history number fixed plain s) (at : get_elem? s.views id ≡ some v) where
    un : IsUnspent v.phase
    un = subst IsUnspent (sym idle) tt

    knows : Knows number plain r.log r.served r.next (length s.views) id v
    knows = r.each id v at un

    here : id ≡ 0
    here = sym knows.own ∙ zeroth

    root_is : v ≡ r.first.root
    root_is = same_at s.views 0 v r.first.root (subst (λ i. get_elem? s.views i ≡ some v) here at) r.first.place

    taken : (j : Joined E) → Contains v.joined j → Taken number r.log s.views j
    taken j h = r.first.taken j (subst (λ (z : View E F). Contains z.joined j) root_is h)

    -- each place but the first is of a seat that was joined
    gone : (k : ℕ) → 0 < k → k < length s.views → IsJoined v.joined k
    gone k pos l = let f = r.first in let n = f.all in let same : length v.gave ≡ length f.root.gave = ap (λ (z : View E F). length z.gave) root_is in
        all k (subst (λ g. Contains g k) (sym (subst (λ (z : View E F). z.gave ≡ up_to (length z.gave)) (sym root_is) f.gave_is)) (up_to_has (length v.gave) k pos (omega arith)))

    unserved : (i : ℕ) (u : View E F) → get_elem? s.views i ≡ some u → HasSlot u.phase → ⊥
    unserved i u e sv = dite (ℕ_discrete i 0)
        (λ z. subst HasSlot (ap (λ (y : View E F). y.phase) (same_at s.views 0 u v (subst (λ k. get_elem? s.views k ≡ some u) z e) (subst (λ k. get_elem? s.views k ≡ some v) here at)) ∙ idle) sv)
        (λ pos. let j = gone i (omega arith) (inside s.views i u e) in let t = taken j.0 j.1 in
        subst HasSlot (ap (λ (y : View E F). y.phase) (same_at s.views i u t.gone.0 e (subst (λ k. get_elem? s.views k ≡ some t.gone.0) j.2 t.gone.1)) ∙ t.gone.2) sv)

    home : AtHome history fixed plain r.log s ⊎ IsOut s → AtHome history fixed plain r.log s
    home (inl h) = h
    home (inr o) = let b = o.by_whom in absurd (unserved b.0 b.1 b.2 b.3)

    closes : ClosesHistory number v r.log
    closes = record {
      begins = knows.begins;
      mine = subst (λ n. entries_of number n r.log ≡ v.mine) zeroth knows.mine;
      joined_begins = λ j h. (taken j h).begins;
      joined_mine = λ j h. (taken j h).mine;
      own_numbers = subst (λ (z : View E F). HaveOwnNumbers z.joined) (sym root_is) r.first.own_numbers;
      no_others = λ e h. dite (ℕ_discrete (number e) 0) inl (λ pos. inr (gone (number e) (omega arith) (r.entries e h)));
    }

  ends : (plain : F) (id : ℕ) (v : View E F) (ws : List ℕ) (xs : List (Option S)) → v.number ≡ 0 → v.phase ≡ Idle → AllJoined v → Final (Seen (Turning history number fixed plain) id v) ws xs
      → (x : S) × (get_elem? xs 0 ≡ some (Some x)) × ClosesHistory number v (history x) × (Some (fixed x) ≡ v.fixed)
  ends plain id v ws xs zeroth idle all (s, seen, words, long, there) = let r = seen.0 in let h = home plain id v zeroth idle all s r seen.1 r.slot in (
    h.value,
    there 0 (Some h.value) (ap (λ hs. get_elem? hs 0) h.there),
    subst (ClosesHistory number v) (sym h.is) (closes plain id v zeroth idle all s r seen.1),
    ap Some h.same ∙ sym (knows plain id v zeroth idle all s r seen.1).same,
  )

  pub ends_some : (plain : F) (id : ℕ) (v : View E F) (ws : List ℕ) (xs : List (Option S)) (o : Option S) → v.number ≡ 0 → v.phase ≡ Idle → AllJoined v → Final (Seen (Turning history number fixed plain) id v) ws xs → get_elem? xs 0 ≡ some o → (x : S) × (o ≡ Some x)
  ends_some plain id v ws xs o zeroth idle all final taken = let e = ends plain id v ws xs zeroth idle all final in (e.0, same_at xs 0 o (Some e.0) taken e.1)

  pub ends_with : (plain : F) (id : ℕ) (v : View E F) (ws : List ℕ) (xs : List (Option S)) (o : Option S) (y : S) → v.number ≡ 0 → v.phase ≡ Idle → AllJoined v → Final (Seen (Turning history number fixed plain) id v) ws xs → get_elem? xs 0 ≡ some o → o ≡ Some y
      → ClosesHistory number v (history y) × (Some (fixed y) ≡ v.fixed)
  ends_with plain id v ws xs o y zeroth idle all final taken is = let e = ends plain id v ws xs zeroth idle all final in let same : e.0 ≡ y = same_some e.0 y (sym (same_at xs 0 o (Some e.0) taken e.1) ∙ is) in
      subst (λ z. ClosesHistory number v (history z) × (Some (fixed z) ≡ v.fixed)) same (e.2, e.3)
