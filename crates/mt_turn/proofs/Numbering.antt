-- Drawing the number of the next seat.
use Rattle.std.proofs.Common.{◌≡◌, ℕ, ◌+◌, ◌%◌, ◌^◌, List, [], ◌∷◌, length, get_or, set, sym, refl, ap, ◌∙◌, subst, arith, mod-eq_of_lt}
use mathlib.Core.Option.{some}
use lib.ListN.{get_elem?}
use Rattle.atomic_table.specs.Table.{keeps, Allows}
use Rattle.mt_turn.specs.declared.view.Phase.TheVariants.{Idle, Splits}
use Rattle.mt_turn.specs.declared.view.View.{View}
use Rattle.mt_turn.specs.Views.{up_to, with_phase}
use Rattle.mt_turn.specs.Private.Turning.{IsUnspent, HasSlot, tickets, numbers_drawn, Turning}
use Rattle.mt_turn.specs.Private.Steps.{Seated, Numbers}
use Rattle.mt_turn.proofs.Facts.{goes_self}
use Rattle.mt_turn.proofs.Lists.{same_at, out_set}
use Rattle.mt_turn.proofs.Moves.{moved, slot_stays}

module _ {E F S : Type 0} (history : S → List E) (number : E → ℕ) (fixed : S → F) (plain : F) where
  pub numbers : (slots id : ℕ) (m : Seated E F S) → m.0.phase ≡ Idle → m.0.number ≡ 0 → Allows (Turning history number fixed plain) slots id m 3 (λ n. (n + 1) % 2 ^ 64) (Numbers m)
  numbers slots id m idle zeroth s r _ at _ =
      let n : ℕ = get_or s.words 3 0 in
      let w : View E F = with_phase m.0 (Splits n) in
      let un : IsUnspent m.0.phase = subst IsUnspent (sym idle) tt in
      let k = r.each id m.0 at un in
      let here : id ≡ 0 = sym k.own ∙ zeroth in
      let f = r.first in
      let is : m.0 ≡ f.root = same_at s.views 0 m.0 f.root (subst (λ i. get_elem? s.views i ≡ some m.0) here at) f.place in
      let found : n ≡ r.numbers = ap (λ ws. get_or ws 3 0) r.words in
      let none_drawn : numbers_drawn f.root.phase ≡ 0 = ap (λ (z : View E F). numbers_drawn z.phase) (sym is) ∙ ap numbers_drawn idle in
      let none_drawn' : numbers_drawn m.0.phase ≡ 0 = ap numbers_drawn idle in
      let next = f.next_number in
      let few = r.few in
      let all = f.all in
      let given : length m.0.gave ≡ length f.root.gave = ap (λ (z : View E F). length z.gave) is in
      let none_out : tickets m.0.phase ≡ 0 = ap tickets idle in
      let counted = out_set s.views id m.0 w at in
      let total = r.tickets_out in
      let unserved : HasSlot m.0.phase → ⊥ = λ h. subst HasSlot idle h in
      let within : (r.numbers + 1) % 2 ^ 64 ≡ r.numbers + 1 = mod-eq_of_lt (omega arith) in (
        w,
        keeps,
        tt,
        moved history number fixed plain s r id m.0 w r.log r.served r.next (r.numbers + 1) (set s.words 3 ((get_or s.words 3 0 + 1) % 2 ^ 64)) s.homes record {
          at = at;
          unspent = un;
          stays = tt;
          mine = record {
            own = k.own;
            begins = k.begins;
            mine = k.mine;
            mine_seen = k.mine_seen;
            same = k.same;
            at = omega arith;
            later = λ l. absurd (omega arith);
          };
          goes = goes_self r.log;
          others_entries = λ _ _. refl;
          others_at = λ j u _ e un'. (r.each j u e un').at;
          alone = λ j t u other e a b. a;
          tickets_out = omega arith;
          short = r.short;
          entries = r.entries;
          gave_same = refl;
          joined_same = refl;
          drawn_same = omega arith;
          words = subst (λ ws. set ws 3 ((get_or ws 3 0 + 1) % 2 ^ 64) ≡ r.next % 2 ^ 64 ∷ r.served % 2 ^ 64 ∷ length r.log ∷ (r.numbers + 1) ∷ []) (sym r.words)
              (ap (λ k. r.next % 2 ^ 64 ∷ r.served % 2 ^ 64 ∷ length r.log ∷ k ∷ []) within);
          slot = slot_stays history number fixed plain s r.log id m.0 w (set s.words 3 ((get_or s.words 3 0 + 1) % 2 ^ 64)) at unserved (λ h. h) r.slot;
        },
        (refl, omega arith, subst (λ (z : View E F). z.gave ≡ up_to (length z.gave)) (sym is) f.gave_is),
      )
