-- Histories, and the entries of one number in them.
use Rattle.std.proofs.Common.{◌≡◌, ◌≢◌, ℕ, zero, suc, eqb, ◌+◌, ◌<◌, ◌≤◌, inl, inr, ⊎_elim, Bool, true, false, cond, List, [], ◌∷◌, ◌++◌, length, get_or, Contains, nat_lt, ltb-true, sym, refl, ap, ◌∙◌, subst, eq-eqb, ne_eqb, arith, append_assoc, append-nil, length-append}
use mathlib.Core.Logic.{dite}
use native.Mathlib.Decide.{dec_le}
use Rattle.std.proofs.lemmas.List.{nil_from_length, append_cancel_left}
use Rattle.std.proofs.lemmas.List.Elements.{filter-append, Contains-append_left, Contains-append_right, Contains-append_cases}
use Rattle.mt_turn.specs.Views.{entries_of, Extends, longer, up_to}
use Rattle.mt_turn.specs.Lending.{Grows}

module _ {E : Type 0} where
  pub head_there : (x : E) (xs : List E) → Contains (x ∷ xs) x
  head_there x xs = (0, omega arith, refl)

  pub only_there : (x e : E) → Contains (x ∷ []) e → x ≡ e
  only_there x e (zero, l, is) = is
  only_there x e (suc k, l, is) = absurd (omega arith)

  pub goes_self : (log : List E) → Extends log log
  goes_self log = ([], sym (append-nil log))

  pub goes_trans : (a b c : List E) → Extends a b → Extends b c → Extends a c
  goes_trans a b c (x, e) (y, f) = (x ++ y, f ∙ (ap (λ l. l ++ y) e ∙ append_assoc a x y))

  -- of two beginnings of one list the shorter begins the longer
  front_of : (a b x y : List E) → a ++ x ≡ b ++ y → length a ≤ length b → Extends a b
  front_of [] b x y e l = (b, refl)
  front_of (c ∷ a) [] x y e l = absurd (omega arith)
  front_of (c ∷ a) (d ∷ b) x y e l = let t : a ++ x ≡ b ++ y = ap rest e in let r = front_of a b x y t (omega arith) in
      (r.0, ap (λ h. h ∷ b) (sym (ap (λ l. get_or l 0 c) e)) ∙ ap (λ l. c ∷ l) r.1)
    where
      rest : List E → List E
      rest [] = []
      rest (z ∷ zs) = zs

  pub shorter_begins : (a b log : List E) → Extends a log → Extends b log → length a ≤ length b → Extends a b
  shorter_begins a b log (x, e) (y, f) l = front_of a b x y (sym e ∙ f) l

  pub nil_first : (a b : List E) → a ++ b ≡ [] → a ≡ []
  nil_first a b e = nil_from_length a (omega (arith, length-append a b, ap length e))

  chosen : (P : List E → Type 0) (a b : List E) (t : Bool) → P a → P b → P (cond t b a)
  chosen P a b true pa pb = pb
  chosen P a b false pa pb = pa

  pub longer_goes : (a b log : List E) → Extends a log → Extends b log → Extends (longer a b) log
  longer_goes a b log p q = chosen (λ l. Extends l log) a b (nat_lt (length a) (length b)) p q

  module _ (number : E → ℕ) where
    abbrev made_by : ℕ → List E → List E
    made_by = entries_of number

    -- where the front has all that the history has of a number, no later entry has it
    pub none_later : (n : ℕ) (front later : List E) → made_by n (front ++ later) ≡ made_by n front → made_by n later ≡ []
    none_later n front later e = append_cancel_left (made_by n front) (made_by n later) [] ((sym (filter-append (λ x. eqb (number x) n) front later) ∙ e) ∙ sym (append-nil (made_by n front)))

    -- a list between such a front and the history has all of them too
    pub same_between : (n : ℕ) (a b log : List E) → Extends a b → Extends b log → made_by n a ≡ made_by n log → made_by n b ≡ made_by n log
    same_between n a b log (x, e) (y, f) same = let p = λ (z : E). eqb (number z) n in
        let h : made_by n a ++ (made_by n x ++ made_by n y) ≡ made_by n a = sym (append_assoc (made_by n a) (made_by n x) (made_by n y)) ∙ (ap (λ l. l ++ made_by n y) (sym (filter-append p a x) ∙ ap (made_by n) (sym e)) ∙ (sym (filter-append p b y) ∙ (ap (made_by n) (sym f) ∙ sym same))) in
        let none : made_by n x ++ made_by n y ≡ [] = append_cancel_left (made_by n a) (made_by n x ++ made_by n y) [] (h ∙ sym (append-nil (made_by n a))) in
        let gone : made_by n x ≡ [] = nil_first (made_by n x) (made_by n y) none in
        ap (made_by n) e ∙ (filter-append p a x ∙ (ap (λ l. made_by n a ++ l) gone ∙ (append-nil (made_by n a) ∙ same)))

    longer_by : (n : ℕ) (a b log : List E) (t : Bool) → nat_lt (length a) (length b) ≡ t → Extends a log → Extends b log → made_by n a ≡ made_by n log → made_by n (cond t b a) ≡ made_by n log
    longer_by n a b log true is p q same = let l = ltb-true (length a) (length b) is in same_between n a b log (shorter_begins a b log p q (omega arith)) q same
    longer_by n a b log false is p q same = same

    pub longer_same : (n : ℕ) (a b log : List E) → Extends a log → Extends b log → made_by n a ≡ made_by n log → made_by n (longer a b) ≡ made_by n log
    longer_same n a b log p q same = longer_by n a b log (nat_lt (length a) (length b)) refl p q same

    pub own_more : (n : ℕ) (log : List E) (e : E) → number e ≡ n → made_by n (log ++ e ∷ []) ≡ made_by n log ++ e ∷ []
    own_more n log e is = filter-append (λ x. eqb (number x) n) log (e ∷ []) ∙ ap (λ b. made_by n log ++ cond b (e ∷ []) []) (eq-eqb (number e) n is)

    pub other_more : (n : ℕ) (log : List E) (e : E) → number e ≢ n → made_by n (log ++ e ∷ []) ≡ made_by n log
    other_more n log e no_one = filter-append (λ x. eqb (number x) n) log (e ∷ []) ∙ (ap (λ b. made_by n log ++ cond b (e ∷ []) []) (ne_eqb (number e) n no_one) ∙ append-nil (made_by n log))

    pub none_made : (n : ℕ) (log : List E) → ((e : E) → Contains log e → number e < n) → made_by n log ≡ []
    none_made n [] below = refl
    none_made n (x ∷ xs) below = let here = below x (head_there x xs) in
        ap (λ b. cond b (x ∷ made_by n xs) (made_by n xs)) (ne_eqb (number x) n (λ e. omega arith)) ∙ none_made n xs (λ e i. below e (Contains-append_right (x ∷ []) xs e i))

    pub grows_goes : (n : ℕ) (lent log : List E) → Grows number n lent log → Extends lent log
    grows_goes n lent log (inl e) = ([], e ∙ sym (append-nil lent))
    grows_goes n lent log (inr (e, is, more)) = (e ∷ [], more)

    -- the entries of other seats stay what they are
    pub grows_other : (n k : ℕ) (lent log : List E) → Grows number n lent log → n ≢ k → made_by k log ≡ made_by k lent
    grows_other n k lent log (inl e) apart = ap (made_by k) e
    grows_other n k lent log (inr (e, is, more)) apart = ap (made_by k) more ∙ other_more k lent e (λ h. apart (sym is ∙ h))

    pub grows_entries : (n seats : ℕ) (lent log : List E) → Grows number n lent log → n < seats → ((e : E) → Contains lent e → number e < seats) → (e : E) → Contains log e → number e < seats
    grows_entries n seats lent log (inl same) l below e i = below e (subst (λ h. Contains h e) same i)
    grows_entries n seats lent log (inr (x, is, more)) l below e i = ⊎_elim (below e) (λ (h : Contains (x ∷ []) e). subst (λ z. number z < seats) (only_there x e h) (subst (λ k. k < seats) (sym is) l))
        (Contains-append_cases lent (x ∷ []) e (subst (λ h. Contains h e) more i))

pub up_to_has : (n k : ℕ) → 0 < k → k ≤ n → Contains (up_to n) k
up_to_has zero k l h = absurd (omega arith)
up_to_has (suc n) k l h = dite (dec_le k n) (λ below. Contains-append_left (up_to n) (suc n ∷ []) k (up_to_has n k l below))
    (λ above. let e : suc n ≡ k = omega arith in subst (λ z. Contains (up_to n ++ suc n ∷ []) z) e (Contains-append_right (up_to n) (suc n ∷ []) (suc n) (head_there (suc n) [])))

pub up_to_next : (g : List ℕ) → g ≡ up_to (length g) → g ++ (length g + 1) ∷ [] ≡ up_to (length (g ++ (length g + 1) ∷ []))
up_to_next g e = let n : length (g ++ (length g + 1) ∷ []) ≡ suc (length g) = omega (arith, length-append g ((length g + 1) ∷ [])) in
    let one : length g + 1 ≡ suc (length g) = omega arith in
    ap (λ h. h ++ (length g + 1) ∷ []) e ∙ (ap (λ k. up_to (length g) ++ k ∷ []) one ∙ ap up_to (sym n))
