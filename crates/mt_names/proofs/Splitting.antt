-- Callsigns in order: what stands before and after one.
use Rattle.std.proofs.Common.{◌≡◌, ◌≢◌, ◌⊎◌, inl, inr, ⊎_elim, Bool, true, false, ℕ, zero, suc, ◌+◌, ◌-◌, ◌<◌, ◌≤◌, ◌↔◌, List, [], ◌∷◌, ◌++◌, Contains, length, get_or, take, drop, nat_lt, true≢false, refl, sym, ◌∙◌, ap, subst, arith}
use Rattle.std.proofs.lemmas.Bool.Decides.{nat_tests}
use Rattle.std.proofs.lemmas.Cmp.{nat_list_cmp_total, tied_itself}
use Rattle.std.proofs.lemmas.List.{append_assoc, get_or-drop, get_or-take, get_or_default, length-drop, length-take, take_all}
use Rattle.std.proofs.lemmas.List.Elements.{Contains-append_left, Contains-append_right, Contains-append_cases, Contains-get_or}
use Rattle.std.proofs.lemmas.List.Kept.{AllPairs-cons}
use Rattle.std.specs.List.{AllPairs, AllWithin}
use Rattle.std.specs.Str.{bytes_eq}
use Rattle.std.proofs.lemmas.Slice.Eq.{bytes_eq-Decides}
use Rattle.std.specs.Cmp.Lexicographic.{slice_cmp}
use Rattle.std.specs.Ordering.{is_lt, nat_cmp}
use Rattle.std.specs.declared.cmp.Ordering.{Ordering}
use Rattle.std.specs.declared.cmp.Ordering.TheVariants.{Less, Equal, Greater}
use Rattle.mt_base.proofs.ConflictOrder.{one_text}
use Rattle.mt_base.proofs.Members.{All-from_held, Contains-cases, Contains-head, Contains-later, Contains-take, distinct_append, distinct_take}
use Rattle.mt_names.specs.declared.names.Named.{Named}
use Rattle.mt_names.specs.Private.Naming.{AreRising, IsCallBefore, IsNotBefore, IsOtherName, IsSplit}

-- the order of texts
abbrev cmp : List ℕ → List ℕ → Ordering
cmp = slice_cmp nat_cmp

before_trans : (a b c : List ℕ) → cmp a b ≡ Less → cmp b c ≡ Less → cmp a c ≡ Less
before_trans = nat_list_cmp_total.trans

not_itself : (a b : List ℕ) → cmp a b ≡ Less → a ≢ b
not_itself a b less same =
    let tied : cmp a a ≡ Equal = tied_itself nat_list_cmp_total a in
    let e : cmp a a ≡ Less = subst (λ (c : List ℕ). cmp a c ≡ Less) (sym same) less in cc

-- one that isn't before another, and isn't it, is after it
behind : (a b : List ℕ) → cmp a b ≢ Less → a ≢ b → cmp b a ≡ Less
behind a b not apart = by_test (cmp a b) refl where
  by_test : (o : Ordering) → cmp a b ≡ o → cmp b a ≡ Less
  by_test Less e = absurd (not e)
  by_test Equal e = absurd (apart (one_text a b e))
  by_test Greater e = nat_list_cmp_total.antisymm b a ∙ rw e refl

-- what a test of the order says
pub less_of : (o : Ordering) → is_lt o ≡ true → o ≡ Less
less_of Less e = refl
less_of Equal e = cc
less_of Greater e = cc

pub not_less_of : (o : Ordering) → is_lt o ≡ false → o ≢ Less
not_less_of Less e is = cc
not_less_of Equal e is = cc
not_less_of Greater e is = cc

-- by its callsign and its place
pub one_named : (n : Named) (call : List ℕ) (slot : ℕ) → n.call ≡ call → n.slot ≡ slot → n ≡ record { call = call; slot = slot }
one_named n call slot call_is slot_is = subst (λ (k : ℕ). n ≡ record { call = call; slot = k }) slot_is
    (subst (λ (c : List ℕ). n ≡ record { call = c; slot = n.slot }) call_is refl)

-- one at a place that has another callsign
pub other_at : (names : List Named) (call : List ℕ) (first : ℕ) (e : Named) → bytes_eq (get_or names first e).call call ≡ false
    → (d : Named) → first < length names → (get_or names first d).call ≢ call
other_at names call first e test d inside = λ own.
    let yes = (bytes_eq-Decides (get_or names first e).call call).1 (ap (λ (n : Named). n.call) (get_or_default names first e d inside) ∙ own) in
    true≢false (sym yes ∙ test)

-- the parts of a list
rest_whole : (names : List Named) (b : ℕ) → take (length names - b) (drop b names) ≡ drop b names
rest_whole names b = let short = length-drop b names in take_all (length names - b) (drop b names) (omega arith)

pub joined_without : (names xs : List Named) (f b : ℕ) → xs ≡ take f names ++ take (length names - b) (drop b names) → xs ≡ take f names ++ drop b names
joined_without names xs f b is = is ∙ ap (λ (ys : List Named). take f names ++ ys) (rest_whole names b)

pub joined_with : (names xs : List Named) (x : Named) (f b : ℕ) → xs ≡ (take f names ++ x ∷ []) ++ take (length names - b) (drop b names)
    → xs ≡ take f names ++ x ∷ drop b names
joined_with names xs x f b is = is ∙ ap (λ (ys : List Named). (take f names ++ x ∷ []) ++ ys) (rest_whole names b) ∙ append_assoc (take f names) (x ∷ []) (drop b names)

rest_pairs : {X : Type 0} (R : X → X → Type 0) (n : ℕ) (xs : List X) → AllPairs R xs → AllPairs R (drop n xs)
rest_pairs R n xs all = λ i j d before below.
    let short = length-drop n xs in
    let ahead : n + i < n + j = omega arith in
    let inside : n + j < length xs = omega arith in
    rw (get_or-drop n xs i d, get_or-drop n xs j d) (all (n + i) (n + j) d ahead inside)

pub Contains-drop : {X : Type 0} (n : ℕ) (xs : List X) (x : X) → Contains (drop n xs) x → Contains xs x
Contains-drop n xs x held =
    let short = length-drop n xs in
    let below = held.1 in
    let inside : n + held.0 < length xs = omega arith in
    (n + held.0, inside, sym (get_or-drop n xs held.0 x) ∙ held.2)

in_take : {X : Type 0} (n k : ℕ) (xs : List X) (x : X) → k < n → k < length xs → get_or xs k x ≡ x → Contains (take n xs) x
in_take n k xs x below inside is =
    let short = length-take n xs in
    (k, omega arith, get_or-take n xs k x below ∙ is)

in_drop : {X : Type 0} (n k : ℕ) (xs : List X) (x : X) → n ≤ k → k < length xs → get_or xs k x ≡ x → Contains (drop n xs) x
in_drop n k xs x from inside is =
    let short = length-drop n xs in
    let at : n + (k - n) ≡ k = omega arith in
    (k - n, omega arith, get_or-drop n xs (k - n) x ∙ ap (λ (i : ℕ). get_or xs i x) at ∙ is)

-- ---- halving
module _ (names : List Named) (call : List ℕ) (rising : AreRising names) where
  -- from one that is before the callsign, and from one that isn't
  pub all_before : (middle : ℕ) (e : Named) → middle < length names → IsCallBefore call (get_or names middle e) → AllWithin (IsCallBefore call) names 0 (middle + 1)
  all_before middle e inside is = λ k d from below. by_test k d below (nat_lt k middle) refl where
    here : (d : Named) → get_or names middle d ≡ get_or names middle e
    here d = get_or_default names middle d e inside

    by_test : (k : ℕ) (d : Named) → k < middle + 1 → (b : Bool) → nat_lt k middle ≡ b → IsCallBefore call (get_or names k d)
    by_test k d below true t =
        let ahead : k < middle = grind (arith, nat_tests) in
        before_trans (get_or names k d).call (get_or names middle d).call call (rising k middle d ahead inside)
        (subst (λ (n : Named). IsCallBefore call n) (sym (here d)) is)
    by_test k d below false t =
        let same : k ≡ middle = grind (arith, nat_tests) in
        subst (λ (i : ℕ). IsCallBefore call (get_or names i d)) (sym same) (subst (λ (n : Named). IsCallBefore call n) (sym (here d)) is)

  pub none_before : (middle : ℕ) (e : Named) → middle < length names → IsNotBefore call (get_or names middle e) → AllWithin (IsNotBefore call) names middle (length names)
  none_before middle e inside not = λ k d from below. by_test k d from below (nat_lt middle k) refl where
    here : (d : Named) → get_or names middle d ≡ get_or names middle e
    here d = get_or_default names middle d e inside

    by_test : (k : ℕ) (d : Named) → middle ≤ k → k < length names → (b : Bool) → nat_lt middle k ≡ b → IsNotBefore call (get_or names k d)
    by_test k d from below true t = λ is.
        let ahead : middle < k = grind (arith, nat_tests) in
        not (subst (λ (n : Named). IsCallBefore call n) (here d)
        (before_trans (get_or names middle d).call (get_or names k d).call call (rising middle k d ahead below) is))
    by_test k d from below false t =
        let same : k ≡ middle = grind (arith, nat_tests) in
        subst (λ (i : ℕ). IsNotBefore call (get_or names i d)) (sym same) (subst (λ (n : Named). IsNotBefore call n) (sym (here d)) not)

  -- ---- the split
  below_held : (first : ℕ) → first ≤ length names → AllWithin (IsCallBefore call) names 0 first → (n : Named) → Contains (take first names) n → IsCallBefore call n
  below_held first inside all n held =
      let short = length-take first names in
      let below = held.1 in
      let within : held.0 < first = omega arith in
      subst (λ (m : Named). IsCallBefore call m) (sym (get_or-take first names held.0 n within) ∙ held.2) (all held.0 n (omega arith) within)

  pub split_here : (first : ℕ) (e : Named) → first < length names → AllWithin (IsCallBefore call) names 0 first → (get_or names first e).call ≡ call
      → IsSplit names call (first, first + 1)
  split_here first e inside all own = record {
    first = omega arith;
    inside = omega arith;
    one = omega arith;
    below = below_held first (omega arith) all;
    same = λ d some. ap (λ (n : Named). n.call) (get_or_default names first d e inside) ∙ own;
    above = λ n held.
        let short = length-drop (first + 1) names in
        let below = held.1 in
        let ahead : first < first + 1 + held.0 = omega arith in
        let there : first + 1 + held.0 < length names = omega arith in
        let pair = rising first (first + 1 + held.0) n ahead there in
        let mine : (get_or names first n).call ≡ call = ap (λ (m : Named). m.call) (get_or_default names first n e inside) ∙ own in
        let is : get_or names (first + 1 + held.0) n ≡ n = sym (get_or-drop (first + 1) names held.0 n) ∙ held.2 in
        subst (λ (m : Named). cmp call m.call ≡ Less) is (subst (λ (c : List ℕ). cmp c (get_or names (first + 1 + held.0) n).call ≡ Less) mine pair);
  }

  pub split_none : (first : ℕ) → first ≤ length names → AllWithin (IsCallBefore call) names 0 first → AllWithin (IsNotBefore call) names first (length names)
      → ((d : Named) → first < length names → (get_or names first d).call ≢ call) → IsSplit names call (first, first)
  split_none first inside all rest apart = record {
    first = omega arith;
    inside = inside;
    one = omega arith;
    below = below_held first inside all;
    same = λ d some. absurd (omega (arith, some));
    above = λ n held.
        let short = length-drop first names in
        let below = held.1 in
        let there : first + held.0 < length names = omega arith in
        let is : get_or names (first + held.0) n ≡ n = sym (get_or-drop first names held.0 n) ∙ held.2 in
        let not : cmp n.call call ≢ Less = subst (λ (m : Named). IsNotBefore call m) is (rest (first + held.0) n (omega arith) there) in
        behind n.call call not (differs n held.0 there is);
  } where
    differs : (n : Named) (k : ℕ) → first + k < length names → get_or names (first + k) n ≡ n → n.call ≢ call
    differs n zero there is = λ own.
        let start : first < length names = omega (arith, there) in
        let at : first ≡ first + 0 = omega arith in
        apart n start (ap (λ (m : Named). m.call) (ap (λ (i : ℕ). get_or names i n) at ∙ is) ∙ own)
    differs n (suc k) there is = λ own.
        let ahead : first < first + suc k = omega arith in
        let start : first < length names = omega arith in
        let pair = rising first (first + suc k) n ahead there in
        let less : cmp (get_or names first n).call call ≡ Less = subst (λ (c : List ℕ). cmp (get_or names first n).call c ≡ Less) (ap (λ (m : Named). m.call) is ∙ own) pair in
        rest first n (omega arith) start less

-- ---- what a split gives
module _ (names : List Named) (call : List ℕ) (span : ℕ × ℕ) (split : IsSplit names call span) where
  listed : (n : Named) → Contains names n → Contains (take span.0 names) n ⊎ (((span.0 < span.1) × (n.call ≡ call)) ⊎ Contains (drop span.1 names) n)
  listed n held = by_test (nat_lt held.0 span.0) (nat_lt held.0 span.1) refl refl where
    by_test : (a b : Bool) → nat_lt held.0 span.0 ≡ a → nat_lt held.0 span.1 ≡ b
        → Contains (take span.0 names) n ⊎ (((span.0 < span.1) × (n.call ≡ call)) ⊎ Contains (drop span.1 names) n)
    by_test true b ea eb = inl (in_take span.0 held.0 names n (grind (arith, nat_tests)) held.1 held.2)
    by_test false false ea eb = inr (inr (in_drop span.1 held.0 names n (grind (arith, nat_tests)) held.1 held.2))
    by_test false true ea eb =
        let from : span.0 ≤ held.0 = grind (arith, nat_tests) in
        let below : held.0 < span.1 = grind (arith, nat_tests) in
        let one = split.one in
        let at : held.0 ≡ span.0 = omega arith in
        let own = split.same n (omega arith) in
        let some : span.0 < span.1 = omega arith in
        inr (inl (some, ap (λ (m : Named). m.call) (sym held.2 ∙ ap (λ (i : ℕ). get_or names i n) at) ∙ own))

  before_other : (n : Named) → Contains (take span.0 names) n → IsOtherName names call n
  before_other n held = record { listed = Contains-take span.0 names n held; other = not_itself n.call call (split.below n held) }

  behind_other : (n : Named) → Contains (drop span.1 names) n → IsOtherName names call n
  behind_other n held = record { listed = Contains-drop span.1 names n held; other = λ same. not_itself call n.call (split.above n held) (sym same) }

  pub found_listed : (slot : ℕ) (d : Named) → span.0 < span.1 → slot ≡ (get_or names span.0 d).slot → Contains names (record { call = call; slot = slot })
  found_listed slot d some is =
      let ends = split.inside in
      let inside : span.0 < length names = omega arith in
      let n : Named = get_or names span.0 d in
      let own = split.same d some in
      let it = one_named n call slot own (sym is) in
      subst (λ (m : Named). Contains names m) it (Contains-get_or names span.0 d inside)

  pub found_none : span.1 ≤ span.0 → (n : Named) → Contains names n → n.call ≢ call
  found_none none n held = ⊎_elim
      (λ below. (before_other n below).other)
      (λ rest. ⊎_elim (λ own. (let some = own.0 in absurd (omega (arith, some, none)))) (λ above. (behind_other n above).other) rest)
      (listed n held)

  pub with_rising : AreRising names → (x : Named) → x.call ≡ call → AreRising (take span.0 names ++ x ∷ drop span.1 names)
  with_rising rising x own = distinct_append (λ a b. IsCallBefore b.call a) (take span.0 names) (x ∷ drop span.1 names)
      (distinct_take (λ a b. IsCallBefore b.call a) span.0 names rising)
      (AllPairs-cons (λ a b. IsCallBefore b.call a) x (drop span.1 names)
      (All-from_held (λ b. IsCallBefore b.call x) (drop span.1 names) (λ b held. subst (λ (c : List ℕ). cmp c b.call ≡ Less) (sym own) (split.above b held)))
      (rest_pairs (λ a b. IsCallBefore b.call a) span.1 names rising))
      (λ a b held there. ⊎_elim
      (λ same. subst (λ (c : List ℕ). cmp a.call c ≡ Less) (sym own ∙ ap (λ (m : Named). m.call) same) (split.below a held))
      (λ later. before_trans a.call call b.call (split.below a held) (split.above b later))
      (Contains-cases x (drop span.1 names) b there))

  pub without_rising : AreRising names → AreRising (take span.0 names ++ drop span.1 names)
  without_rising rising = distinct_append (λ a b. IsCallBefore b.call a) (take span.0 names) (drop span.1 names)
      (distinct_take (λ a b. IsCallBefore b.call a) span.0 names rising)
      (rest_pairs (λ a b. IsCallBefore b.call a) span.1 names rising)
      (λ a b held there. before_trans a.call call b.call (split.below a held) (split.above b there))

  pub without_members : (n : Named) → Contains (take span.0 names ++ drop span.1 names) n ↔ IsOtherName names call n
  without_members n = (
    (λ held. ⊎_elim (λ below. before_other n below) (λ above. behind_other n above) (Contains-append_cases (take span.0 names) (drop span.1 names) n held)),
    (λ it. ⊎_elim
        (λ below. Contains-append_left (take span.0 names) (drop span.1 names) n below)
        (λ rest. ⊎_elim (λ own. absurd (it.other own.1)) (λ above. Contains-append_right (take span.0 names) (drop span.1 names) n above) rest)
        (listed n it.listed)),
  )

  pub with_members : (x n : Named) → Contains (take span.0 names ++ x ∷ drop span.1 names) n ↔ ((n ≡ x) ⊎ IsOtherName names call n)
  with_members x n = (
    (λ held. ⊎_elim
        (λ below. inr (before_other n below))
        (λ rest. ⊎_elim (λ same. inl (sym same)) (λ above. inr (behind_other n above)) (Contains-cases x (drop span.1 names) n rest))
        (Contains-append_cases (take span.0 names) (x ∷ drop span.1 names) n held)),
    (λ it. ⊎_elim
        (λ same. Contains-append_right (take span.0 names) (x ∷ drop span.1 names) n (subst (λ (m : Named). Contains (x ∷ drop span.1 names) m) (sym same) (Contains-head x (drop span.1 names))))
        (λ other. ⊎_elim
        (λ below. Contains-append_left (take span.0 names) (x ∷ drop span.1 names) n below)
        (λ rest. ⊎_elim (λ own. absurd (other.other own.1))
        (λ above. Contains-append_right (take span.0 names) (x ∷ drop span.1 names) n (Contains-later x (drop span.1 names) n above)) rest)
        (listed n other.listed))
        it),
  )
