use Rattle.std.proofs.Common.{◌≡◌, ◌⊎◌, inl, inr, ⊎_elim, List, [], ◌∷◌, Contains, refl, sym, ◌∙◌, subst, ap₂}
use Rattle.std.proofs.lemmas.List.Elements.{All-contains}
use Rattle.std.proofs.lemmas.Map.Views.{All-after_first}
use Rattle.std.specs.Cmp.{IsTotalOrder, tied_itself}
use Rattle.std.specs.List.Sorted.{IsStrictlySortedBy}
use Rattle.std.specs.declared.cmp.Ordering.{Ordering}
use Rattle.std.specs.declared.cmp.Ordering.TheVariants.{Less}
use Rattle.mt_base.proofs.Members.{Contains-cases, Contains-head, Contains-later, Contains-none}

-- none is before itself
not_before_itself : {K : Type 0} {R : K → K → Ordering} → IsTotalOrder R → (x : K) → ¬ (R x x ≡ Less)
not_before_itself o x e = let tied = tied_itself o x in cc

tail_sorted : {K : Type 0} (R : K → K → Ordering) (x : K) (xs : List K) → IsStrictlySortedBy R (x ∷ xs) → IsStrictlySortedBy R xs
unfolding IsStrictlySortedBy
tail_sorted R x xs up = up.1

module _ {K : Type 0} {R : K → K → Ordering} (o : IsTotalOrder R) where
  -- the first of a strictly ordered list is the given member, or before it
  first_or_after : (x : K) (xs : List K) (y : K) → IsStrictlySortedBy R (x ∷ xs) → Contains (x ∷ xs) y → (x ≡ y) ⊎ (R x y ≡ Less)
  first_or_after x xs y up h = ⊎_elim inl (λ rest. inr (All-contains (λ z. R x z ≡ Less) xs y (All-after_first R x xs up) rest)) (Contains-cases x xs y h)

  one_front : (x : K) (xs : List K) (y : K) (ys : List K) → IsStrictlySortedBy R (x ∷ xs) → IsStrictlySortedBy R (y ∷ ys)
      → Contains (x ∷ xs) y → Contains (y ∷ ys) x → x ≡ y
  one_front x xs y ys up up' y_in x_in = ⊎_elim (λ e. e)
      (λ before. ⊎_elim sym (λ after. absurd (not_before_itself o x (o.trans x y x before after))) (first_or_after y ys x up' x_in))
      (first_or_after x xs y up y_in)

  -- a member of the rest of the one list is in the rest of the other
  in_other_rest : (x : K) (xs : List K) (y : K) (ys : List K) → IsStrictlySortedBy R (x ∷ xs) → x ≡ y
      → (z : K) → Contains xs z → Contains (y ∷ ys) z → Contains ys z
  in_other_rest x xs y ys up same z later h = ⊎_elim
      (λ e. absurd (not_before_itself o x (subst (λ (w : K). R x w ≡ Less) (sym (same ∙ e)) (All-contains (λ w. R x w ≡ Less) xs z (All-after_first R x xs up) later))))
      (λ h. h) (Contains-cases y ys z h)

  -- two strictly ordered lists with the same members are one
  pub one_order : (xs ys : List K) → IsStrictlySortedBy R xs → IsStrictlySortedBy R ys
      → ((z : K) → Contains xs z → Contains ys z) → ((z : K) → Contains ys z → Contains xs z) → xs ≡ ys
  one_order [] [] up up' there back = refl
  one_order [] (y ∷ ys) up up' there back = absurd (Contains-none y (back y (Contains-head y ys)))
  one_order (x ∷ xs) [] up up' there back = absurd (Contains-none x (there x (Contains-head x xs)))
  one_order (x ∷ xs) (y ∷ ys) up up' there back =
      let same = one_front x xs y ys up up' (back y (Contains-head y ys)) (there x (Contains-head x xs)) in
      ap₂ (λ (w : K) (ws : List K). w ∷ ws) same (one_order xs ys (tail_sorted R x xs up) (tail_sorted R y ys up')
      (λ z h. in_other_rest x xs y ys up same z h (there z (Contains-later x xs z h)))
      (λ z h. in_other_rest y ys x xs up' (sym same) z h (back z (Contains-later y ys z h))))
