-- Lists of conflicts in the order of publishing, in parts.
use Rattle.std.proofs.Common.{◌≡◌, ℕ, ◌+◌, ◌-◌, ◌<◌, ◌≤◌, inl, inr, ⊎_elim, List, [], ◌∷◌, length, take, drop, get_or, Contains, refl, sym, ◌∙◌, ap, subst, arith}
use Rattle.std.specs.List.{HoldsAt}
use Rattle.std.specs.List.Sorted.{IsNonDecreasingBy, IsPartitionPoint, IsStrictlySortedBy}
use Rattle.std.specs.Ordering.{ordering_index, ordering_reverse}
use Rattle.std.specs.declared.cmp.Ordering.{Ordering}
use Rattle.std.specs.declared.cmp.Ordering.TheVariants.{Less, Equal, Greater}
use Rattle.std.proofs.Math.Seq.{take-length}
use Rattle.std.proofs.lemmas.Bool.{cases_eq, cases_lt}
use Rattle.std.proofs.lemmas.List.{get_or_default, get_or-drop, get_or-take, length-drop, length-take}
use Rattle.std.proofs.lemmas.Map.Keys.{Less-from_sorted, sorted_from_all_adjacent}
use Rattle.mt_base.specs.declared.conflict.Conflict.{Conflict}
use Rattle.mt_base.specs.Picture.{conflict_cmp}
use Rattle.mt_base.proofs.ConflictOrder.{one_conflict, total}
use Rattle.mt_base.proofs.Members.{distinct_take}
use Rattle.mt_kept.specs.Private.Merging.{ComesBefore, IsParted, LieBefore, Rise}
use Rattle.mt_kept.proofs.InOrder.{rising}

-- a list in strict order rises, and one that rises is in strict order
pub rise_of : (xs : List Conflict) → IsStrictlySortedBy conflict_cmp xs → Rise xs
rise_of xs sorted = λ i j d before below. Less-from_sorted conflict_cmp xs i j d sorted before below

pub sorted_of : (xs : List Conflict) (x : Conflict) → Rise xs → IsStrictlySortedBy conflict_cmp xs
sorted_of xs x rise = sorted_from_all_adjacent total xs x (λ k inside. rise k (k + 1) x (omega arith) inside)

-- a rear part of a list that rises, does
pub rise_drop : (n : ℕ) (xs : List Conflict) → Rise xs → Rise (drop n xs)
rise_drop n xs rise = λ i j d before below.
    let short = length-drop n xs in
    rw (get_or-drop n xs i d, get_or-drop n xs j d) (rise (n + i) (n + j) d (omega arith) (omega arith))

-- a list from a place on
pub rear : (xs : List Conflict) (i : ℕ) → take (length xs - i) (drop i xs) ≡ drop i xs
rear xs i = ap (λ (n : ℕ). take n (drop i xs)) (sym (length-drop i xs)) ∙ take-length (drop i xs)

-- a member of a front and of a rear
pub taken : (n : ℕ) (xs : List Conflict) (c : Conflict) → Contains (take n xs) c → (k : ℕ) × (k < n) × (k < length xs) × (get_or xs k c ≡ c)
taken n xs c held =
    let short = length-take n xs in
    let inside = held.1 in
    let within : held.0 < n = omega arith in
    (held.0, within, omega arith, sym (get_or-take n xs held.0 c within) ∙ held.2)

pub dropped : (n : ℕ) (xs : List Conflict) (c : Conflict) → Contains (drop n xs) c → (k : ℕ) × (n ≤ k) × (k < length xs) × (get_or xs k c ≡ c)
dropped n xs c held =
    let short = length-drop n xs in
    let inside = held.1 in
    (n + held.0, omega arith, omega arith, sym (get_or-drop n xs held.0 c) ∙ held.2)

pub in_front : (n k : ℕ) (xs : List Conflict) (c : Conflict) → k < n → k < length xs → get_or xs k c ≡ c → Contains (take n xs) c
in_front n k xs c within inside is = let short = length-take n xs in (k, omega arith, get_or-take n xs k c within ∙ is)

pub in_rear : (n k : ℕ) (xs : List Conflict) (c : Conflict) → n ≤ k → k < length xs → get_or xs k c ≡ c → Contains (drop n xs) c
in_rear n k xs c after inside is =
    let short = length-drop n xs in
    (k - n, omega arith, get_or-drop n xs (k - n) c ∙ ap (λ (j : ℕ). get_or xs j c) (omega arith) ∙ is)

-- two different members, by their places
pub between : (xs : List Conflict) (i j : ℕ) (c d : Conflict) → Rise xs → i < j → j < length xs → get_or xs i c ≡ c → get_or xs j d ≡ d → ComesBefore c d
between xs i j c d rise before below c_is d_is =
    let less : conflict_cmp (get_or xs i c) (get_or xs j c) ≡ Less = rise i j c before below in
    let other : get_or xs j c ≡ d = get_or_default xs j c d below ∙ d_is in
    rw (c_is, other) at less

-- what comes before the place of a conflict, and what comes after it
pub front_rear : (xs : List Conflict) (i j : ℕ) → Rise xs → i ≤ j → LieBefore (take i xs) (drop j xs)
front_rear xs i j rise order c d held there =
    let low = taken i xs c held in
    let high = dropped j xs d there in
    between xs low.0 high.0 c d rise (let a = low.1 in let b = high.1 in omega arith) high.2 low.3 high.3

pub found_parted : (xs : List Conflict) (x : Conflict) (i : ℕ) → IsStrictlySortedBy conflict_cmp xs → i < length xs
    → HoldsAt (λ y. conflict_cmp y x ≡ Equal) xs i → IsParted x xs (take i xs) (drop (i + 1) xs)
found_parted xs x i sorted inside at =
    let rise = rise_of xs sorted in
    let here : get_or xs i x ≡ x = one_conflict (get_or xs i x) x (at x) in
    record {
      first = λ c held. let low = taken i xs c held in between xs low.0 i c x rise low.1 inside low.3 here;
      second = λ c held. let high = dropped (i + 1) xs c held in between xs i high.0 x c rise (let a = high.1 in omega arith) high.2 here high.3;
      before_rise = distinct_take ComesBefore i xs rise;
      after_rise = rise_drop (i + 1) xs rise;
      across = front_rear xs i (i + 1) rise (omega arith);
      parts = λ c either. ⊎_elim
          (λ held. let low = taken i xs c held in (low.0, low.2, low.3))
          (λ held. let high = dropped (i + 1) xs c held in (high.0, high.2, high.3)) either;
      whole = λ c held. ⊎_elim
          (λ low. inl (in_front i held.0 xs c low held.1 held.2))
          (λ past. ⊎_elim
          (λ same. inr (inl (sym here ∙ ap (λ (k : ℕ). get_or xs k x) (sym same) ∙ get_or_default xs held.0 x c held.1 ∙ held.2)))
          (λ other. inr (inr (in_rear (i + 1) held.0 xs c (omega arith) held.1 held.2))) (cases_eq held.0 i)) (cases_lt held.0 i);
      short = let a = length-take i xs in let b = length-drop (i + 1) xs in omega arith;
    }

pub absent_parted : (xs : List Conflict) (x : Conflict) (i : ℕ) → IsStrictlySortedBy conflict_cmp xs → i ≤ length xs
    → (IsNonDecreasingBy (λ y. ordering_index (conflict_cmp y x)) xs → IsPartitionPoint (λ y. conflict_cmp y x ≡ Less) (λ y. conflict_cmp y x ≡ Greater) xs i)
    → IsParted x xs (take i xs) (drop i xs)
absent_parted xs x i sorted inside parts =
    let rise = rise_of xs sorted in
    let point = parts (rising xs x sorted) in
    record {
      first = λ c held.
          let low = taken i xs c held in
          subst (λ y. conflict_cmp y x ≡ Less) low.3 (point.0 low.0 c (let a = low.2 in omega arith) low.1);
      second = λ c held.
          let high = dropped i xs c held in
          let greater : conflict_cmp c x ≡ Greater = subst (λ y. conflict_cmp y x ≡ Greater) high.3 (point.1 high.0 c high.1 high.2) in
          total.antisymm x c ∙ ap ordering_reverse greater;
      before_rise = distinct_take ComesBefore i xs rise;
      after_rise = rise_drop i xs rise;
      across = front_rear xs i i rise (omega arith);
      parts = λ c either. ⊎_elim
          (λ held. let low = taken i xs c held in (low.0, low.2, low.3))
          (λ held. let high = dropped i xs c held in (high.0, high.2, high.3)) either;
      whole = λ c held. ⊎_elim
          (λ low. inl (in_front i held.0 xs c low held.1 held.2))
          (λ past. inr (inr (in_rear i held.0 xs c past held.1 held.2))) (cases_lt held.0 i);
      short = let a = length-take i xs in let b = length-drop i xs in omega arith;
    }

-- the others from one on
pub this_ahead : (others : List Conflict) (n : ℕ) (x : Conflict) → n < length others → x ≡ get_or others n x → Contains (drop n others) x
this_ahead others n x inside is = in_rear n n others x (omega arith) inside (sym is)

pub next_ahead : (others : List Conflict) (n : ℕ) (x y : Conflict) → Rise others → x ≡ get_or others n x → Contains (drop (n + 1) others) y
    → Contains (drop n others) y × ComesBefore x y
next_ahead others n x y rise is held =
    let high = dropped (n + 1) others y held in
    let past = high.1 in
    (in_rear n high.0 others y (omega arith) high.2 high.3, between others n high.0 x y rise (omega arith) high.2 (sym is) high.3)

-- what is left of the list stays in order
pub sorted_whole : (xs : List Conflict) → Rise xs → IsStrictlySortedBy conflict_cmp xs
unfolding IsStrictlySortedBy
sorted_whole [] rise = tt
sorted_whole (x ∷ xs) rise = sorted_of (x ∷ xs) x rise

-- `head_found`, `head_absent`: what a search in the head of a list says of the whole list, where it finds a place within the head
pub head_found : (n : ℕ) (xs : List Conflict) (x : Conflict) (i : ℕ) → i < length (take n xs) → HoldsAt (λ y. conflict_cmp y x ≡ Equal) (take n xs) i
    → HoldsAt (λ y. conflict_cmp y x ≡ Equal) xs i
head_found n xs x i inside at d =
    let short = length-take n xs in
    rw (← get_or-take n xs i d (omega arith)) (at d)

is_greater : (o : Ordering) → 2 ≤ ordering_index o → o ≡ Greater
is_greater Less late = absurd (omega arith)
is_greater Equal late = absurd (omega arith)
is_greater Greater late = refl

pub head_absent : (n : ℕ) (xs : List Conflict) (x : Conflict) (i : ℕ) → IsStrictlySortedBy conflict_cmp xs → i < n → n ≤ length xs
    → (IsNonDecreasingBy (λ y. ordering_index (conflict_cmp y x)) (take n xs)
    → IsPartitionPoint (λ y. conflict_cmp y x ≡ Less) (λ y. conflict_cmp y x ≡ Greater) (take n xs) i)
    → IsNonDecreasingBy (λ y. ordering_index (conflict_cmp y x)) xs
    → IsPartitionPoint (λ y. conflict_cmp y x ≡ Less) (λ y. conflict_cmp y x ≡ Greater) xs i
head_absent n xs x i sorted within short parts rises =
    let long = length-take n xs in
    let front = sorted_of (take n xs) x (distinct_take ComesBefore n xs (rise_of xs sorted)) in
    let point = parts (rising (take n xs) x front) in (
      (λ k d low below. rw (← get_or-take n xs k d (omega arith)) (point.0 k d low below)),
      (λ k d past below.
          let here : conflict_cmp (get_or xs i d) x ≡ Greater = rw (get_or-take n xs i d within) at (point.1 i d (omega arith) (omega arith)) in
          let least = rises i k d past below in
          is_greater (conflict_cmp (get_or xs k d) x) (rw here at least)),
    )
