-- Marks: one more of them, and the numbers of a front of them.
use Rattle.std.proofs.Common.{◌≡◌, ◌↔◌, ◌⊎◌, inl, inr, ⊎_elim, ℕ, zero, suc, ◌+◌, ◌<◌, ◌≤◌, Bool, true, false, List, [], ◌∷◌, ◌++◌, Contains, length, get_or, take, refl, sym, ap, ◌∙◌, subst, arith}
use Rattle.std.proofs.lemmas.Bool.{cases_lt, false≢true}
use Rattle.std.proofs.lemmas.List.{get_or_append_left, get_or_push, length-take-le, length_push, take_more}
use Rattle.std.proofs.lemmas.List.Elements.{Contains-append_left, Contains-get_or, Contains-push, Contains-push_cases}
use Rattle.std.specs.List.Sorted.{IsStrictlyIncreasing}
use Rattle.mt_grid.specs.Private.Marks.{AreMarked, IsMarked}

-- a front with one mark more
marked_push : (front : List Bool) (b : Bool) (k : ℕ) → IsMarked (front ++ b ∷ []) k ↔ (IsMarked front k ⊎ ((length front ≡ k) × (b ≡ true)))
marked_push [] b zero = ((λ m. inr (refl, m)), (λ h. ⊎_elim (λ m. absurd (false≢true m)) (λ m. m.1) h))
marked_push [] b (suc k) = ((λ m. inl m), (λ h. ⊎_elim (λ m. m) (λ m. absurd (let e = m.0 in omega (arith, e))) h))
marked_push (c ∷ front) b zero = ((λ m. inl m), (λ h. ⊎_elim (λ m. m) (λ m. absurd (let e = m.0 in omega (arith, e))) h))
marked_push (c ∷ front) b (suc k) =
    let rest = marked_push front b k in (
      (λ m. ⊎_elim (λ o. inl o) (λ n. inr (ap suc n.0, n.1)) (rest.0 m)),
      (λ h. ⊎_elim (λ m. rest.1 (inl m)) (λ n. rest.1 (inr (let e = n.0 in omega (arith, e), n.1))) h),
    )

-- what is marked lies below the marks' end
marked_below : (marks : List Bool) (k : ℕ) → IsMarked marks k → k < length marks
marked_below [] k m = absurd (false≢true m)
marked_below (b ∷ marks) zero m = omega arith
marked_below (b ∷ marks) (suc k) m = omega (arith, marked_below marks k m)

-- rising numbers and a greater one
rising_push : (numbers : List ℕ) (n : ℕ) → IsStrictlyIncreasing numbers → ((k : ℕ) → Contains numbers k → k < n) → IsStrictlyIncreasing (numbers ++ n ∷ [])
rising_push numbers n rising less k below = ⊎_elim inside last (cases_lt (k + 1) (length numbers)) where
  long : length (numbers ++ n ∷ []) ≡ length numbers + 1
  long = length_push numbers n

  inside : k + 1 < length numbers → get_or (numbers ++ n ∷ []) k 0 < get_or (numbers ++ n ∷ []) (k + 1) 0
  inside h =
      let a = get_or_append_left numbers (n ∷ []) 0 k (omega arith) in
      let b = get_or_append_left numbers (n ∷ []) 0 (k + 1) h in
      let r = rising k h in
      omega (arith, a, b, r)

  last : length numbers ≤ k + 1 → get_or (numbers ++ n ∷ []) k 0 < get_or (numbers ++ n ∷ []) (k + 1) 0
  last h =
      let a = get_or_append_left numbers (n ∷ []) 0 k (omega (arith, below, long)) in
      let b = get_or_push numbers n 0 (k + 1) (omega (arith, below, long)) in
      let r = less _ (Contains-get_or numbers k 0 (omega (arith, below, long))) in
      omega (arith, a, b, r)

-- the numbers of a front with a mark more that is set, and with one that isn't
numbers_more : (front : List Bool) (numbers : List ℕ) (n : ℕ) → length front ≡ n → AreMarked front numbers → AreMarked (front ++ true ∷ []) (numbers ++ n ∷ [])
numbers_more front numbers n long are = record {
  rising = rising_push numbers n are.rising (λ k h. let b = marked_below front k ((are.same k).0 h) in omega (arith, b, long));
  same = λ k. (
    (λ h. (marked_push front true k).1 (⊎_elim (λ o. inl ((are.same k).0 o)) (λ (e : n ≡ k). inr (long ∙ e, refl)) (Contains-push_cases numbers n k h))),
    (λ m. ⊎_elim
        (λ o. Contains-append_left numbers (n ∷ []) k ((are.same k).1 o))
        (λ e. subst (λ (z : ℕ). Contains (numbers ++ n ∷ []) z) (sym long ∙ e.0) (Contains-push numbers n))
        ((marked_push front true k).0 m)),
  );
}

numbers_stay : (front : List Bool) (numbers : List ℕ) → AreMarked front numbers → AreMarked (front ++ false ∷ []) numbers
numbers_stay front numbers are = record {
  rising = are.rising;
  same = λ k. (
    (λ h. (marked_push front false k).1 (inl ((are.same k).0 h))),
    (λ m. ⊎_elim (λ o. (are.same k).1 o) (λ e. absurd (false≢true e.1)) ((marked_push front false k).0 m)),
  );
}

-- and mark by mark
pub numbers_on : (marks : List Bool) (i : ℕ) (numbers : List ℕ) → i < length marks → get_or marks i false ≡ true → AreMarked (take i marks) numbers
    → AreMarked (take (i + 1) marks) (numbers ++ i ∷ [])
numbers_on marks i numbers below is are =
    let long : length (take i marks) ≡ i = length-take-le i marks (omega arith) in
    rw (take_more marks i false below, is) (numbers_more (take i marks) numbers i long are)

pub numbers_past : (marks : List Bool) (i : ℕ) (numbers : List ℕ) → i < length marks → get_or marks i false ≡ false → AreMarked (take i marks) numbers
    → AreMarked (take (i + 1) marks) numbers
numbers_past marks i numbers below is are = rw (take_more marks i false below, is) (numbers_stay (take i marks) numbers are)
