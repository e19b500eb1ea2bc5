-- Elements by their places, and the tickets that are out.
use Rattle.std.proofs.Common.{◌≡◌, ℕ, zero, suc, ◌+◌, ◌<◌, ◌≤◌, ◌⊎◌, inl, inr, ⊎_elim, List, [], ◌∷◌, ◌++◌, length, set, Contains, sym, refl, ap, ◌∙◌, arith}
use mathlib.Core.Option.{some, some-injective, some-ne-none}
use lib.ListN.{get_elem?}
use Rattle.std.proofs.lemmas.List.Elements.{Contains-append_right}
use Rattle.mt_turn.specs.declared.view.Phase.{Phase}
use Rattle.mt_turn.specs.declared.view.Phase.TheVariants.{Idle, Splits, Waits, Holds, Counted, Spent}
use Rattle.mt_turn.specs.declared.view.View.{View}
use Rattle.mt_turn.specs.Private.Turning.{tickets, out}

module _ {A : Type 0} where
  pub inside : (l : List A) (i : ℕ) (a : A) → get_elem? l i ≡ some a → i < length l
  inside [] i a e = absurd (some-ne-none a (sym e))
  inside (x ∷ xs) zero a e = omega arith
  inside (x ∷ xs) (suc i) a e = let h = inside xs i a e in omega arith

  pub contained : (l : List A) (i : ℕ) (a : A) → get_elem? l i ≡ some a → Contains l a
  contained [] i a e = absurd (some-ne-none a (sym e))
  contained (x ∷ xs) zero a e = (0, omega arith, some-injective x a e)
  contained (x ∷ xs) (suc i) a e = Contains-append_right (x ∷ []) xs a (contained xs i a e)

  -- with its place, where it is the new one
  pub at_longer_place : (l : List A) (a b : A) (j : ℕ) → get_elem? (l ++ a ∷ []) j ≡ some b → (get_elem? l j ≡ some b) ⊎ ((j ≡ length l) × (a ≡ b))
  at_longer_place [] a b zero e = inr (refl, some-injective a b e)
  at_longer_place [] a b (suc j) e = absurd (some-ne-none b (sym e))
  at_longer_place (x ∷ xs) a b zero e = inl e
  at_longer_place (x ∷ xs) a b (suc j) e = ⊎_elim inl (λ (t : (j ≡ length xs) × (a ≡ b)). let n = t.0 in inr (omega arith, t.1)) (at_longer_place xs a b j e)

  pub same_at : (l : List A) (i : ℕ) (a b : A) → get_elem? l i ≡ some a → get_elem? l i ≡ some b → a ≡ b
  same_at l i a b e f = some-injective a b (sym e ∙ f)

module _ {E : Type 0} where
  pub tickets_le : (p : Phase E) → tickets p ≤ 1
  tickets_le Idle = omega arith
  tickets_le (Splits n) = omega arith
  tickets_le (Waits t) = omega arith
  tickets_le (Holds t lent) = omega arith
  tickets_le (Counted t) = omega arith
  tickets_le Spent = omega arith

module _ {E F : Type 0} where
  pub out_le : (vs : List (View E F)) → out vs ≤ length vs
  out_le [] = omega arith
  out_le (v ∷ vs) = let h = out_le vs in let t = tickets_le v.phase in omega arith

  pub out_set : (vs : List (View E F)) (i : ℕ) (v w : View E F) → get_elem? vs i ≡ some v → out (set vs i w) + tickets v.phase ≡ out vs + tickets w.phase
  out_set [] i v w e = absurd (some-ne-none v (sym e))
  out_set (x ∷ xs) zero v w e = let h : tickets x.phase ≡ tickets v.phase = ap (λ (z : View E F). tickets z.phase) (some-injective x v e) in omega arith
  out_set (x ∷ xs) (suc i) v w e = let h = out_set xs i v w e in omega arith

  pub out_more : (vs : List (View E F)) (v : View E F) → out (vs ++ v ∷ []) ≡ out vs + tickets v.phase
  out_more [] v = omega arith
  out_more (x ∷ xs) v = let h = out_more xs v in omega arith
