-- The least key that is not allowed: in keys that ascend the first, and of keys that come one after another the least so far.
use Rattle.std.proofs.Common.{◌≡◌, ℕ, suc, ◌+◌, not, cond, nat_lt, List, [], ◌∷◌, ◌++◌, length, All, Bool, true, false, true≢false, Option, Some, None, option_map, option_and_then, MatchOption, Ordering, Less, Equal, Greater, nat_cmp, slice_get, inl, inr, ◌⊎◌, refl, sym, ap, subst, ◌∙◌, arith}
use Rattle.std.proofs.lemmas.Cmp.{nat_list_cmp_total}
use Rattle.std.proofs.lemmas.List.Elements.{All-nil, All-cons, All-from_recursion, All-weaker}
use Rattle.std.proofs.lemmas.Map.Text.{is_eq-slice_cmp}
use Rattle.std.proofs.lemmas.Slice.Eq.{bytes_eq-Decides}
use Rattle.std.specs.Cmp.Lexicographic.{slice_cmp}
use Rattle.std.specs.List.{position, position_or_len}
use Rattle.std.specs.List.Sorted.{IsStrictlySortedBy}
use Rattle.std.specs.Ordering.{is_eq, match_ordering, ordering_reverse}
use Rattle.serde_json.specs.Data.{Data, Members, no_members, member, put}
use Rattle.mt_json.specs.Keys.{is_allowed, keys, other_key, IsLeastOther}
use Rattle.mt_json.specs.Private.Keys.{lesser}
use Rattle.mt_json.specs.View.{members_view, view}
use Rattle.mt_json.proofs.Members.{Entry, IsBelow, ascending, below_all, members_more}

shifted : (b c : Bool) (n k : ℕ) → nat_lt n k ≡ c
    → cond (nat_lt (cond (not b) (1 + n) 0) (suc k)) (Some (cond (not b) (1 + n) 0)) None ≡ cond b (Some 0) (option_map suc (cond (nat_lt n k) (Some n) None))
shifted true c n k e = grind arith
shifted false true n k e = grind arith
shifted false false n k e = grind arith

-- the first place in a list with one element more in front
position-cons : {X : Type 0} (p : X → Bool) (x : X) (xs : List X) → position p (x ∷ xs) ≡ cond (p x) (Some 0) (option_map suc (position p xs))
position-cons p x xs = shifted (p x) _ (position_or_len p xs) (length xs) refl

module _ (allowed : List ℕ) where
  -- the first of the keys that is not allowed
  abbrev first : List (List ℕ) → Option (List ℕ)
  first [] = None
  first (k ∷ ks) = cond (is_allowed allowed k) (first ks) (Some k)

  got : (k : List ℕ) (ks : List (List ℕ)) (b : Bool) (r : Option ℕ) → option_and_then (slice_get (k ∷ ks)) (cond (not b) (Some 0) (option_map suc r)) ≡ cond b (option_and_then (slice_get ks) r) (Some k)
  got k ks true None = refl
  got k ks true (Some n) = refl
  got k ks false r = refl

  is_first : (ks : List (List ℕ)) → option_and_then (slice_get ks) (position (λ k. not (is_allowed allowed k)) ks) ≡ first ks
  is_first [] = refl
  is_first (k ∷ ks) =
      ap (option_and_then (slice_get (k ∷ ks))) (position-cons (λ x. not (is_allowed allowed x)) k ks) ∙ got k ks (is_allowed allowed k) _ ∙ ap (λ r. cond (is_allowed allowed k) r (Some k)) (is_first ks)

  -- ---- what is found

  -- that each key is allowed, or the least that is not
  abbrev Found : List (List ℕ) → Option (List ℕ) → Type 0
  Found ks r = MatchOption r (All (λ k. is_allowed allowed k ≡ true) ks) (IsLeastOther allowed ks)

  abbrev IsAbove : List ℕ → List ℕ → Type 0
  IsAbove key k = is_allowed allowed k ≡ false → (k ≡ key) ⊎ (slice_cmp nat_cmp key k ≡ Less)

  further : (k : List ℕ) (ks : List (List ℕ)) (r : Option (List ℕ)) → is_allowed allowed k ≡ true → Found ks r → Found (k ∷ ks) r
  further k ks None e h = All-cons (λ x. is_allowed allowed x ≡ true) k ks e h
  further k ks (Some key) e h =
      record { place = suc h.place; stands = h.stands; other = h.other; least = All-cons (IsAbove key) k ks (λ no. absurd (true≢false (sym e ∙ no))) h.least }

  here : (k : List ℕ) (ks : List (List ℕ)) → IsBelow k ks → is_allowed allowed k ≡ false → IsLeastOther allowed (k ∷ ks) k
  here k ks below e =
      record { place = 0; stands = refl; other = e; least = All-cons (IsAbove k) k ks (λ _. inl refl) (All-weaker (λ y. slice_cmp nat_cmp k y ≡ Less) (IsAbove k) (λ y less _. inr less) ks (All-from_recursion (λ y. slice_cmp nat_cmp k y ≡ Less) ks below)) }

  found_at : (k : List ℕ) (ks : List (List ℕ)) (b : Bool) (r : Option (List ℕ)) → is_allowed allowed k ≡ b → IsBelow k ks → Found ks r → Found (k ∷ ks) (cond b r (Some k))
  found_at k ks true r e below h = further k ks r e h
  found_at k ks false r e below h = here k ks below e

  found_first : (ks : List (List ℕ)) → IsStrictlySortedBy (slice_cmp nat_cmp) ks → Found ks (first ks)
  unfolding IsStrictlySortedBy
  found_first [] h = All-nil _
  found_first (k ∷ ks) h = found_at k ks _ _ refl h.0 (found_first ks h.1)

  -- the least key of an object that is not allowed
  pub found_other : (ms : List Entry) → MatchOption (other_key allowed (members_view ms)) (All (λ k. is_allowed allowed k ≡ true) (keys (members_view ms))) (IsLeastOther allowed (keys (members_view ms)))
  found_other ms = let ks = keys (members_view ms) in subst (Found ks) (sym (is_first ks)) (found_first ks (ascending ms))

  -- ---- one member more

  above_at : (k l : List ℕ) (r : Option (List ℕ)) (b : Bool) → slice_cmp nat_cmp k l ≡ Less → lesser k r ≡ k → lesser k (cond b r (Some l)) ≡ k
  above_at k l r true less h = h
  above_at k l r false less h = rw (nat_list_cmp_total.antisymm l k ∙ ap ordering_reverse less) refl

  above : (k : List ℕ) (ks : List (List ℕ)) → IsBelow k ks → lesser k (first ks) ≡ k
  above k [] h = refl
  above k (l ∷ ks) h = above_at k l (first ks) (is_allowed allowed l) h.0 (above k ks h.1)

  itself : (o : Ordering) (l : List ℕ) → match_ordering o l l l ≡ l
  itself Less l = refl
  itself Equal l = refl
  itself Greater l = refl

  -- what one key more makes of the least so far
  abbrev with : List ℕ → Option (List ℕ) → Option (List ℕ)
  with k r = cond (is_allowed allowed k) r (Some (lesser k r))

  same_key : (l : List ℕ) (r : Option (List ℕ)) (b : Bool) → cond b r (Some l) ≡ cond b (cond b r (Some l)) (Some (lesser l (cond b r (Some l))))
  same_key l r true = refl
  same_key l r false = ap Some (sym (itself (slice_cmp nat_cmp l l) l))

  later_key : (k l : List ℕ) (r : Option (List ℕ)) (b c : Bool) → slice_cmp nat_cmp l k ≡ Less → cond b (cond c r (Some (lesser k r))) (Some l) ≡ cond c (cond b r (Some l)) (Some (lesser k (cond b r (Some l))))
  later_key k l r true true less = refl
  later_key k l r true false less = refl
  later_key k l r false true less = refl
  later_key k l r false false less = rw less refl

  put_at : (o : Ordering) (k l : List ℕ) (d e : Data) (ms : Members) → slice_cmp nat_cmp k l ≡ o → IsBelow l (keys ms) → first (keys (put k d ms)) ≡ with k (first (keys ms))
      → first (keys (match_ordering o (member k d (member l e ms)) (member l d ms) (member l e (put k d ms)))) ≡ with k (first (l ∷ keys ms))
  put_at Less k l d e ms is below later =
      ap (λ x. cond (is_allowed allowed k) (first (l ∷ keys ms)) (Some x)) (sym (above k (l ∷ keys ms) (is, below_all k l (keys ms) is below)))
  put_at Equal k l d e ms is below later =
      let same : l ≡ k = sym ((bytes_eq-Decides k l).0 (sym (is_eq-slice_cmp k l) ∙ ap is_eq is)) in
      subst (λ x. first (l ∷ keys ms) ≡ with x (first (l ∷ keys ms))) same (same_key l (first (keys ms)) (is_allowed allowed l))
  put_at Greater k l d e ms is below later =
      ap (λ r. cond (is_allowed allowed l) r (Some l)) later ∙ later_key k l (first (keys ms)) (is_allowed allowed l) (is_allowed allowed k) (nat_list_cmp_total.antisymm l k ∙ ap ordering_reverse is)

  first_put : (k : List ℕ) (d : Data) (ms : Members) → IsStrictlySortedBy (slice_cmp nat_cmp) (keys ms) → first (keys (put k d ms)) ≡ with k (first (keys ms))
  unfolding IsStrictlySortedBy
  first_put k d no_members h = refl
  first_put k d (member l e ms) h = put_at (slice_cmp nat_cmp k l) k l d e ms refl h.0 (first_put k d ms h.1)

  -- with one member more, the least key is that so far or the member's
  pub other_key-more : (ms : List Entry) (m : Entry) → other_key allowed (members_view (ms ++ m ∷ [])) ≡ with m.0.now (other_key allowed (members_view ms))
  other_key-more ms m =
      let ks = keys (members_view ms) in
      ap (λ found. other_key allowed found) (members_more ms m) ∙ is_first (keys (put m.0.now (view m.1) (members_view ms))) ∙ first_put m.0.now (view m.1) (members_view ms) (ascending ms) ∙ ap (with m.0.now) (sym (is_first ks))
