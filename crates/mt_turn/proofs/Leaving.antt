-- A leave as a whole: the value is put back and counted, and the turn passed on.
use Rattle.std.proofs.Common.{◌≡◌, ℕ, ◌+◌, ◌-◌, ◌⊎◌, inl, inr, ⊎_elim, List, [], ◌∷◌, ◌++◌, length, sym, ap, ◌∙◌, subst, arith, length-append, Option, Some, None, ◌%◌, ◌^◌}
use Rattle.atomic_table.specs.Table.{rest, Allows}
use Rattle.mt_turn.specs.declared.view.Phase.TheVariants.{Idle, Holds}
use Rattle.mt_turn.specs.declared.view.View.{View}
use Rattle.mt_turn.specs.Views.{entries_of, Extends, with_phase}
use Rattle.mt_turn.specs.Lending.{Grows, Left}
use Rattle.mt_turn.specs.Private.Turning.{Turning}
use Rattle.mt_turn.specs.Private.Steps.{Seated, counted_view, SeesHistory, HandsOn}
use Rattle.mt_turn.proofs.Facts.{own_more}
use Rattle.mt_turn.proofs.Serving.{passes}

pub grown_by : {E : Type 0} (number : E → ℕ) (n : ℕ) (lent log : List E) (was now : ℕ) → Grows number n lent log → was ≡ length lent → now ≡ length log → length lent + (now - was) ≡ length log
grown_by number n lent log was now (inl e) w l = let same : length log ≡ length lent = ap length e in omega arith
grown_by number n lent log was now (inr (e, is, more)) w l = let longer : length log ≡ length (lent ++ e ∷ []) = ap length more in omega (arith, length-append lent (e ∷ []))

-- the slot had nothing, and now has the value
pub put_there : {E F S : Type 0} (v : View E F) (cs : List (ℕ × Option S)) (y : S) (m : Seated E F S) → m ≡ (v, (0, Some y) ∷ rest cs) → cs ≡ (0, None) ∷ [] → m ≡ (v, (0, Some y) ∷ [])
put_there v cs y m there empty = there ∙ ap (λ l. (v, (0, Some y) ∷ rest l)) empty

module _ {E F S : Type 0} (history : S → List E) (number : E → ℕ) where
  -- after the count
  pub counted : (v : View E F) (y : S) (t : ℕ) (lent : List E) (m m' : Seated E F S) (r : ℕ) → v.phase ≡ Holds t lent → m ≡ (v, (0, Some y) ∷ []) → SeesHistory history number m r m' → m' ≡ (counted_view number v t (history y), (0, Some y) ∷ [])
  counted v y t lent m m' r holds is c = let h = c y t lent (ap (λ z. z.1) is) (ap (λ z. z.0.phase) is ∙ holds) in h.0 ∙ ap (λ z. (counted_view number z.0 t (history y), z.1)) is

  pub passes_counted : (fixed : S → F) (plain : F) (slots id : ℕ) (v : View E F) (y : S) (t : ℕ) (lent : List E) (m m' : Seated E F S) (r : ℕ) → v.phase ≡ Holds t lent → m ≡ (v, (0, Some y) ∷ []) → SeesHistory history number m r m' → Some (fixed y) ≡ v.fixed
      → Allows (Turning history number fixed plain) slots id m' 1 (λ n. (n + 1) % 2 ^ 64) (HandsOn m')
  passes_counted fixed plain slots id v y t lent m m' r holds is c same = let at : m' ≡ (counted_view number v t (history y), (0, Some y) ∷ []) = counted v y t lent m m' r holds is c in
      passes history number fixed plain slots id t y m' (ap (λ z. z.0.phase) at) (ap (λ z. z.1) at) (sym (ap (λ z. z.0.seen) at)) (same ∙ sym (ap (λ z. z.0.fixed) at))

  left_mine : (v : View E F) (lent log : List E) → entries_of number v.number lent ≡ v.mine → Grows number v.number lent log
      → ((log ≡ lent) × (entries_of number v.number log ≡ v.mine)) ⊎ ((e : E) × (number e ≡ v.number) × (log ≡ lent ++ e ∷ []) × (entries_of number v.number log ≡ v.mine ++ e ∷ []))
  left_mine v lent log mine (inl same) = inl (same, ap (entries_of number v.number) same ∙ mine)
  left_mine v lent log mine (inr (e, is, more)) = inr (e, is, more, ap (entries_of number v.number) more ∙ (own_more number v.number lent e is ∙ ap (λ l. l ++ e ∷ []) mine))

  pub leaves : (v : View E F) (y : S) (t : ℕ) (lent : List E) (m m' m'' : Seated E F S) (r r' : ℕ) → v.phase ≡ Holds t lent → m ≡ (v, (0, Some y) ∷ []) → SeesHistory history number m r m' → HandsOn m' r' m''
      → Grows number v.number lent (history y) → (m''.0.phase ≡ Idle) × (m''.1 ≡ []) × Left number v lent (history y) m''.0
  leaves v y t lent m m' m'' r r' holds is c p grows =
      let h = c y t lent (ap (λ z. z.1) is) (ap (λ z. z.0.phase) is ∙ holds) in
      let at : m' ≡ (counted_view number v t (history y), (0, Some y) ∷ []) = counted v y t lent m m' r holds is c in
      let end : m'' ≡ (with_phase (counted_view number v t (history y)) Idle, []) = p ∙ ap (λ z. (with_phase z.0 Idle, rest z.1)) at in
      let lent_mine : entries_of number v.number lent ≡ v.mine = subst (λ (z : View E F). entries_of number z.number lent ≡ z.mine) (ap (λ z. z.0) is) h.1 in
      let mine : m''.0.mine ≡ entries_of number v.number (history y) = ap (λ z. z.0.mine) end in (
        ap (λ z. z.0.phase) end,
        ap (λ z. z.1) end,
        record {
          seen = ap (λ z. z.0.seen) end;
          begins = subst (λ (z : View E F). Extends z.seen (history y)) (ap (λ z. z.0) is) h.2;
          mine = ⊎_elim
              (λ (o : (history y ≡ lent) × (entries_of number v.number (history y) ≡ v.mine)). inl (o.0, mine ∙ o.1))
              (λ (o : (e : E) × (number e ≡ v.number) × (history y ≡ lent ++ e ∷ []) × (entries_of number v.number (history y) ≡ v.mine ++ e ∷ [])). inr (o.0, o.1, o.2, mine ∙ o.3))
              (left_mine v lent (history y) lent_mine grows);
          mine_seen = sym mine;
          same = (ap (λ z. z.0.number) end, ap (λ z. z.0.gave) end, ap (λ z. z.0.joined) end, ap (λ z. z.0.fixed) end);
        },
      )
