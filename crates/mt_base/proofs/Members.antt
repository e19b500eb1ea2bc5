-- Which members lists have.
use Rattle.std.proofs.Common.{◌≡◌, ℕ, suc, ◌+◌, ◌<◌, ◌⊎◌, inl, inr, ⊎_elim, ◌↔◌, Bool, true, false, true≢false, cond, List, [], ◌∷◌, ◌++◌, Contains, length, map, take, get_or, refl, sym, ◌∙◌, ap, subst, arith}
use Rattle.std.specs.List.{All, AllByRecursion, AllPairs, filter, flat_map}
use Rattle.std.proofs.Math.ListN.{get_or-map}
use Rattle.std.proofs.lemmas.List.{take_more, get_or-take, get_or_default, length-map, length-take}
use Rattle.std.proofs.lemmas.List.Kept.{AllPairs-cons}
use Rattle.std.proofs.lemmas.List.Elements.{All-append, All-contains, All-map, Contains-get_or, Contains-append_left, Contains-append_right, Contains-append_cases, Contains-push_cases}

pub Contains-none : {X : Type 0} (x : X) → ¬ Contains [] x
Contains-none x held = omega (arith, held.1)

pub Contains-head : {X : Type 0} (x : X) (xs : List X) → Contains (x ∷ xs) x
Contains-head x xs = (0, omega arith, refl)

pub Contains-later : {X : Type 0} (x : X) (xs : List X) (y : X) → Contains xs y → Contains (x ∷ xs) y
Contains-later x xs y held = Contains-append_right (x ∷ []) xs y held

pub Contains-cases : {X : Type 0} (x : X) (xs : List X) (y : X) → Contains (x ∷ xs) y → (x ≡ y) ⊎ Contains xs y
Contains-cases x xs y held = ⊎_elim
    (λ first. ⊎_elim (λ none. absurd (Contains-none y none)) (λ e. inl e) (Contains-push_cases [] x y first))
    (λ later. inr later) (Contains-append_cases (x ∷ []) xs y held)

-- the elements that a filter keeps
pub Contains-filter : {X : Type 0} (p : X → Bool) (xs : List X) (y : X) → Contains (filter p xs) y ↔ (Contains xs y × (p y ≡ true))
Contains-filter p [] y = ((λ held. absurd (Contains-none y held)), (λ h. h.0))
Contains-filter {X} p (x ∷ xs) y = step (Contains-filter p xs y) (p x) refl where
  step : (Contains (filter p xs) y ↔ (Contains xs y × (p y ≡ true))) → (b : Bool) → p x ≡ b → Contains (cond b (x ∷ filter p xs) (filter p xs)) y ↔ (Contains (x ∷ xs) y × (p y ≡ true))
  step rest true e = (
    (λ held. ⊎_elim
        (λ same. (subst (Contains (x ∷ xs)) same (Contains-head x xs), subst (λ (z : X). p z ≡ true) same e))
        (λ later. let h = rest.0 later in (Contains-later x xs y h.0, h.1)) (Contains-cases x (filter p xs) y held)),
    (λ h. ⊎_elim
        (λ same. subst (Contains (x ∷ filter p xs)) same (Contains-head x (filter p xs)))
        (λ later. Contains-later x (filter p xs) y (rest.1 (later, h.1))) (Contains-cases x xs y h.0)),
  )
  step rest false e = (
    (λ held. let h = rest.0 held in (Contains-later x xs y h.0, h.1)),
    (λ h. ⊎_elim
        (λ same. absurd (true≢false (sym (subst (λ (z : X). p z ≡ true) (sym same) h.1) ∙ e)))
        (λ later. rest.1 (later, h.1)) (Contains-cases x xs y h.0)),
  )

-- and those of what a list is seen as
pub record IsSeen {X Y : Type 0} (f : X → Y) (xs : List X) (y : Y) : Type 0 where
  pub of : X
  pub held : Contains xs of
  pub is : f of ≡ y

pub Contains-map_cases : {X Y : Type 0} (f : X → Y) (xs : List X) (y : Y) → Contains (map f xs) y → IsSeen f xs y
Contains-map_cases f [] y held = absurd (Contains-none y held)
Contains-map_cases f (x ∷ xs) y held = ⊎_elim
    (λ same. record { of = x; held = Contains-head x xs; is = same })
    (λ later. let h = Contains-map_cases f xs y later in record { of = h.of; held = Contains-later x xs h.of h.held; is = h.is })
    (Contains-cases (f x) (map f xs) y held)

pub Contains-map : {X Y : Type 0} (f : X → Y) (xs : List X) (x : X) → Contains xs x → Contains (map f xs) (f x)
Contains-map f [] x held = absurd (Contains-none x held)
Contains-map {Y = Y} f (z ∷ xs) x held = ⊎_elim
    (λ same. subst (Contains (f z ∷ map f xs)) (ap f same) (Contains-head (f z) (map f xs)))
    (λ later. Contains-later (f z) (map f xs) (f x) (Contains-map f xs x later))
    (Contains-cases z xs x held)

-- a member of one of the lists that are joined
pub record IsInOne {X Y : Type 0} (f : X → List Y) (xs : List X) (y : Y) : Type 0 where
  pub of : X
  pub there : Contains xs of
  pub within : Contains (f of) y

pub Contains-flat_map_cases : {X Y : Type 0} (f : X → List Y) (xs : List X) (y : Y) → Contains (flat_map f xs) y → IsInOne f xs y
Contains-flat_map_cases f [] y held = absurd (Contains-none y held)
Contains-flat_map_cases f (x ∷ xs) y held = ⊎_elim
    (λ first. record { of = x; there = Contains-head x xs; within = first })
    (λ rest. let it = Contains-flat_map_cases f xs y rest in record { of = it.of; there = Contains-later x xs it.of it.there; within = it.within })
    (Contains-append_cases (f x) (flat_map f xs) y held)

pub Contains-flat_map : {X Y : Type 0} (f : X → List Y) (xs : List X) (x : X) (y : Y) → Contains xs x → Contains (f x) y → Contains (flat_map f xs) y
Contains-flat_map f [] x y there within = absurd (Contains-none x there)
Contains-flat_map f (z ∷ xs) x y there within = ⊎_elim
    (λ same. Contains-append_left (f z) (flat_map f xs) y (subst (λ w. Contains (f w) y) (sym same) within))
    (λ rest. Contains-append_right (f z) (flat_map f xs) y (Contains-flat_map f xs x y rest within))
    (Contains-cases z xs x there)

-- what holds of all of two lists holds of all of both
pub both_all : {X : Type 0} (P : X → Type 0) (xs ys : List X) → AllByRecursion P xs → AllByRecursion P ys → AllByRecursion P (xs ++ ys)
both_all P [] ys all rest = rest
both_all P (x ∷ xs) ys all rest = (all.0, both_all P xs ys all.1 rest)

-- no two elements of two lists, one after the other, are equal
pub distinct_append : {X : Type 0} (R : X → X → Type 0) (xs ys : List X) → AllPairs R xs → AllPairs R ys
    → ((x y : X) → Contains xs x → Contains ys y → R x y) → AllPairs R (xs ++ ys)
distinct_append R [] ys first second across = second
distinct_append R (x ∷ xs) ys first second across =
    AllPairs-cons R x (xs ++ ys)
    (All-append (R x) xs ys (λ k d below. first 0 (suc k) d (omega arith) (omega arith))
    (λ k d below. across x (get_or ys k d) (Contains-head x xs) (Contains-get_or ys k d below)))
    (distinct_append R xs ys (λ i j d before below. first (suc i) (suc j) d (omega arith) (omega arith)) second
    (λ z y held there. across z y (Contains-later x xs z held) there))

-- the same of what a list is seen as
pub distinct_map : {X Y : Type 0} (R : Y → Y → Type 0) (f : X → Y) (xs : List X) → AllPairs (λ x y. R (f x) (f y)) xs → AllPairs R (map f xs)
distinct_map R f [] all = λ i j d before below. absurd (omega arith)
distinct_map R f (x ∷ xs) all =
    AllPairs-cons R (f x) (map f xs) (All-map (R (f x)) f xs (λ k d below. all 0 (suc k) d (omega arith) (omega arith)))
    (distinct_map R f xs (λ i j d before below. all (suc i) (suc j) d (omega arith) (omega arith)))

pub distinct_of : {X Y : Type 0} (R : Y → Y → Type 0) (f : X → Y) (xs : List X) → AllPairs R (map f xs) → AllPairs (λ x y. R (f x) (f y)) xs
distinct_of R f xs all = λ i j d before below.
    let pair = all i j (f d) before (omega (arith, length-map xs f)) in
    rw (← get_or-map f xs i d, ← get_or-map f xs j d) pair

pub distinct_take : {X : Type 0} (R : X → X → Type 0) (n : ℕ) (xs : List X) → AllPairs R xs → AllPairs R (take n xs)
distinct_take R n xs all = λ i j d before below.
    let short = length-take n xs in
    let j_in : j < n = omega arith in
    let i_in : i < n = omega arith in
    rw (get_or-take n xs i d i_in, get_or-take n xs j d j_in) (all i j d before (omega arith))

-- what holds of each element that a list has
pub All-from_held : {X : Type 0} (P : X → Type 0) (xs : List X) → ((x : X) → Contains xs x → P x) → All P xs
All-from_held P xs each = λ k d below. each (get_or xs k d) (Contains-get_or xs k d below)

pub Contains-take : {X : Type 0} (n : ℕ) (xs : List X) (x : X) → Contains (take n xs) x → Contains xs x
Contains-take n xs x held =
    let short = length-take n xs in
    let below = held.1 in
    let within : held.0 < n = omega arith in
    (held.0, omega arith, sym (get_or-take n xs held.0 x within) ∙ held.2)

pub take_push : {X : Type 0} (xs : List X) (i : ℕ) (x : X) → i < length xs → x ≡ get_or xs i x → take (i + 1) xs ≡ take i xs ++ x ∷ []
take_push xs i x below is = take_more xs i x below ∙ ap (λ y. take i xs ++ y ∷ []) (sym is)

-- what holds of any two of a list, by a weaker fact of those that the list has
pub distinct_held : {X : Type 0} (R S : X → X → Type 0) (xs : List X) → ((x y : X) → Contains xs x → Contains xs y → R x y → S x y) → AllPairs R xs → AllPairs S xs
distinct_held R S xs weaker all = λ i j d before below.
    let i_below : i < length xs = omega arith in
    weaker (get_or xs i d) (get_or xs j d) (Contains-get_or xs i d i_below) (Contains-get_or xs j d below) (all i j d before below)

-- what holds of all members of a list holds of all of one that has no others
pub all_among : {X : Type 0} (P : X → Type 0) (xs ys : List X) → All P xs → ((x : X) → Contains ys x → Contains xs x) → All P ys
all_among P xs ys all among = λ k d below.
    All-contains P xs (get_or ys k d) all (among (get_or ys k d) (k, below, get_or_default ys k (get_or ys k d) d below))
