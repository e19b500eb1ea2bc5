-- What stands in the lists after a put, and after a take: members of each list.
use Rattle.std.proofs.Common.{nat_eq, true, false, ◌≡◌, ◌≢◌, ◌↔◌, ◌⊎◌, inl, inr, ⊎_elim, ℕ, zero, suc, ◌<◌, List, [], ◌∷◌, ◌++◌, Contains, All, length, get_or, set, refl, sym, ap, ◌∙◌, subst, arith, get_or-set_same, length-set}
use Rattle.std.proofs.lemmas.Bool.{cases_lt}
use Rattle.std.proofs.lemmas.List.{get_or-set_other}
use Rattle.std.proofs.lemmas.List.Elements.{All-head, All-tail, Contains-append_left, Contains-push, Contains-push_cases}
use Rattle.mt_cover.specs.declared.stays.Stay.{Stay}
use Rattle.mt_cover.specs.Cells.{ShareAt}
use Rattle.mt_grid.specs.declared.placed.Placed.{Placed}
use Rattle.mt_grid.specs.Lists.{IsNear, IsPutBy, list_at, others, placed, with_stay, with_stays, without_stay, without_stays}

pub nowhere : (item cell : ℕ) (p : Placed) → ¬ IsPutBy item [] cell p
nowhere item cell p h = let k = h.of in omega (arith, k.1)

at_head : {X : Type 0} (xs : List X) (x : X) → Contains (x ∷ xs) x
at_head xs x = (0, omega arith, refl)

in_tail : {X : Type 0} (xs : List X) (x y : X) → Contains xs y → Contains (x ∷ xs) y
in_tail xs x y h = (suc h.0, omega (arith, h.1), h.2)

head_or_tail : {X : Type 0} (xs : List X) (x y : X) → Contains (x ∷ xs) y → (x ≡ y) ⊎ Contains xs y
head_or_tail xs x y (zero, below, is) = inl is
head_or_tail xs x y (suc k, below, is) = inr (k, omega (arith, below), is)

decide_eq : (a b : ℕ) → (a ≡ b) ⊎ (b ≢ a)
decide_eq a b = ⊎_elim (λ h. inr (λ e. omega (arith, h, e))) (λ h. ⊎_elim (λ k. inr (λ e. omega (arith, k, e))) (λ k. inl (omega (arith, h, k))) (cases_lt b a)) (cases_lt a b)

-- one stay
one_put : (item : ℕ) (grid : List (List Placed)) (stay : Stay) (cell : ℕ) (p : Placed) → stay.cell < length grid
    → Contains (list_at (with_stay item grid stay) cell) p ↔ (Contains (list_at grid cell) p ⊎ ((stay.cell ≡ cell) × (placed item stay ≡ p)))
one_put item grid stay cell p below = ⊎_elim same other (decide_eq stay.cell cell) where
  here : stay.cell ≡ cell → list_at (with_stay item grid stay) cell ≡ list_at grid cell ++ placed item stay ∷ []
  here e = subst (λ (n : ℕ). get_or (set grid stay.cell (list_at grid stay.cell ++ placed item stay ∷ [])) n [] ≡ list_at grid n ++ placed item stay ∷ []) e
      (get_or-set_same grid stay.cell (list_at grid stay.cell ++ placed item stay ∷ []) [] below)

  same : stay.cell ≡ cell → Contains (list_at (with_stay item grid stay) cell) p ↔ (Contains (list_at grid cell) p ⊎ ((stay.cell ≡ cell) × (placed item stay ≡ p)))
  same e = (
    (λ h. ⊎_elim (λ o. inl o) (λ n. inr (e, n)) (Contains-push_cases (list_at grid cell) (placed item stay) p (subst (λ (l : List Placed). Contains l p) (here e) h))),
    (λ h. subst (λ (l : List Placed). Contains l p) (sym (here e)) (⊎_elim
        (λ o. Contains-append_left (list_at grid cell) (placed item stay ∷ []) p o)
        (λ n. subst (λ (q : Placed). Contains (list_at grid cell ++ placed item stay ∷ []) q) n.1 (Contains-push (list_at grid cell) (placed item stay))) h)),
  )

  other : cell ≢ stay.cell → Contains (list_at (with_stay item grid stay) cell) p ↔ (Contains (list_at grid cell) p ⊎ ((stay.cell ≡ cell) × (placed item stay ≡ p)))
  other apart =
      let e : list_at (with_stay item grid stay) cell ≡ list_at grid cell = get_or-set_other grid stay.cell cell (list_at grid stay.cell ++ placed item stay ∷ []) [] apart in (
        (λ h. inl (subst (λ (l : List Placed). Contains l p) e h)),
        (λ h. ⊎_elim (λ o. subst (λ (l : List Placed). Contains l p) (sym e) o) (λ n. absurd (apart (sym n.0))) h),
      )

-- The lists after a put: what was there, and the item for each stay.
pub put_members : (item : ℕ) (grid : List (List Placed)) (stays : List Stay) (cell : ℕ) (p : Placed) → All (λ (stay : Stay). stay.cell < length grid) stays
    → Contains (list_at (with_stays item grid stays) cell) p ↔ (Contains (list_at grid cell) p ⊎ IsPutBy item stays cell p)
put_members item grid [] cell p few = ((λ h. inl h), (λ h. ⊎_elim (λ o. o) (λ n. absurd (nowhere item cell p n)) h))
put_members item grid (stay ∷ stays) cell p few =
    let one = one_put item grid stay cell p (All-head (λ (s : Stay). s.cell < length grid) stay stays few) in
    let long : length (with_stay item grid stay) ≡ length grid = length-set grid stay.cell (list_at grid stay.cell ++ placed item stay ∷ []) in
    let rest = put_members item (with_stay item grid stay) stays cell p
    (subst (λ (n : ℕ). All (λ (s : Stay). s.cell < n) stays) (sym long) (All-tail (λ (s : Stay). s.cell < length grid) stay stays few)) in (
      (λ h. ⊎_elim
          (λ o. ⊎_elim (λ old. inl old) (λ n. inr (record { stay = stay; of = at_head stays stay; there = n.0; is = n.1 })) (one.0 o))
          (λ n. inr (record { stay = n.stay; of = in_tail stays stay n.stay n.of; there = n.there; is = n.is }))
          (rest.0 h)),
      (λ h. ⊎_elim
          (λ old. rest.1 (inl (one.1 (inl old))))
          (λ n. ⊎_elim
          (λ e. rest.1 (inl (one.1 (inr (subst (λ (s : Stay). (s.cell ≡ cell) × (placed item s ≡ p)) (sym e) (n.there, n.is))))))
          (λ later. rest.1 (inr (record { stay = n.stay; of = later; there = n.there; is = n.is })))
          (head_or_tail stays stay n.stay n.of))
          h),
    )

-- An item whose stays stand in the lists is near each cover that shares a cell with them in a second.
pub shared_near : (grid : List (List Placed)) (mine theirs : List Stay) (item k : ℕ) → ShareAt mine theirs k
    → ((stay : Stay) → Contains theirs stay → Contains (list_at grid stay.cell) (placed item stay)) → IsNear grid mine item
shared_near grid mine theirs item k share held =
    let a = share.left in
    let b = share.right in
    let same : b.stay.cell ≡ a.stay.cell = b.there ∙ sym a.there in
    record {
      stay = a.stay;
      of = a.of;
      there = record {
        by = placed item b.stay;
        of = subst (λ (n : ℕ). Contains (list_at grid n) (placed item b.stay)) same (held b.stay b.of);
        item_of = record { is = refl; common = record { second = k; left = (a.begun, a.within); right = (b.begun, b.within) } };
      };
    }

-- what is left without an item
others_is : (item : ℕ) (list : List Placed) (p : Placed) → Contains (others item list) p ↔ (Contains list p × ¬ (p.item ≡ item))
others_is item [] p = ((λ h. absurd (let k = h.1 in omega (arith, k))), (λ h. h.0))
others_is item (q ∷ list) p =
    let left = others_is item list p in
    ⊎_elim
    (λ e. let t : nat_eq q.item item ≡ true = grind (arith, e) in
    let s : others item (q ∷ list) ≡ others item list = rw t refl in (
      (λ h. let r = left.0 (subst (λ (l : List Placed). Contains l p) s h) in (in_tail list q p r.0, r.1)),
      (λ h. subst (λ (l : List Placed). Contains l p) (sym s) (left.1 (
        ⊎_elim
            (λ is. absurd (h.1 (subst (λ (z : Placed). z.item ≡ item) is e)))
            (λ later. later)
            (head_or_tail list q p h.0),
        h.1,
      ))),
    ))
    (λ apart. let t : nat_eq q.item item ≡ false = grind (arith, apart) in
    let s : others item (q ∷ list) ≡ q ∷ others item list = rw t refl in (
      (λ h. ⊎_elim
          (λ is. (subst (λ (z : Placed). Contains (q ∷ list) z) is (at_head list q), λ same. apart (sym same ∙ ap (λ (z : Placed). z.item) (sym is))))
          (λ later. let r = left.0 later in (in_tail list q p r.0, r.1))
          (head_or_tail (others item list) q p (subst (λ (l : List Placed). Contains l p) s h))),
      (λ h. subst (λ (l : List Placed). Contains l p) (sym s) (⊎_elim
          (λ is. subst (λ (z : Placed). Contains (q ∷ others item list) z) is (at_head (others item list) q))
          (λ later. in_tail (others item list) q p (left.1 (later, h.1)))
          (head_or_tail list q p h.0))),
    ))
    (decide_eq q.item item)

-- one stay
one_taken : (item : ℕ) (grid : List (List Placed)) (stay : Stay) (cell : ℕ) (p : Placed) → stay.cell < length grid
    → Contains (list_at (without_stay item grid stay) cell) p ↔ (Contains (list_at grid cell) p × ¬ ((stay.cell ≡ cell) × (p.item ≡ item)))
one_taken item grid stay cell p below = ⊎_elim same other (decide_eq stay.cell cell) where
  here : stay.cell ≡ cell → list_at (without_stay item grid stay) cell ≡ others item (list_at grid cell)
  here e = subst (λ (n : ℕ). get_or (set grid stay.cell (others item (list_at grid stay.cell))) n [] ≡ others item (list_at grid n)) e
      (get_or-set_same grid stay.cell (others item (list_at grid stay.cell)) [] below)

  same : stay.cell ≡ cell → Contains (list_at (without_stay item grid stay) cell) p ↔ (Contains (list_at grid cell) p × ¬ ((stay.cell ≡ cell) × (p.item ≡ item)))
  same e = (
    (λ h. let r = (others_is item (list_at grid cell) p).0 (subst (λ (l : List Placed). Contains l p) (here e) h) in (r.0, λ n. r.1 n.1)),
    (λ h. subst (λ (l : List Placed). Contains l p) (sym (here e)) ((others_is item (list_at grid cell) p).1 (h.0, λ n. h.1 (e, n)))),
  )

  other : cell ≢ stay.cell → Contains (list_at (without_stay item grid stay) cell) p ↔ (Contains (list_at grid cell) p × ¬ ((stay.cell ≡ cell) × (p.item ≡ item)))
  other apart =
      let e : list_at (without_stay item grid stay) cell ≡ list_at grid cell = get_or-set_other grid stay.cell cell (others item (list_at grid stay.cell)) [] apart in (
        (λ h. (subst (λ (l : List Placed). Contains l p) e h, λ n. apart (sym n.0))),
        (λ h. subst (λ (l : List Placed). Contains l p) (sym e) h.0),
      )

-- The lists after a take: what was there, but for the item in the cells of the stays.
pub take_members : (item : ℕ) (grid : List (List Placed)) (stays : List Stay) (cell : ℕ) (p : Placed) → All (λ (stay : Stay). stay.cell < length grid) stays
    → Contains (list_at (without_stays item grid stays) cell) p
    ↔ (Contains (list_at grid cell) p × ((stay : Stay) → Contains stays stay → stay.cell ≡ cell → ¬ (p.item ≡ item)))
take_members item grid [] cell p few = ((λ h. (h, λ s in_s. absurd (let k = in_s.1 in omega (arith, k)))), (λ h. h.0))
take_members item grid (stay ∷ stays) cell p few =
    let one = one_taken item grid stay cell p (All-head (λ (s : Stay). s.cell < length grid) stay stays few) in
    let long : length (without_stay item grid stay) ≡ length grid = length-set grid stay.cell (others item (list_at grid stay.cell)) in
    let rest = take_members item (without_stay item grid stay) stays cell p
    (subst (λ (n : ℕ). All (λ (s : Stay). s.cell < n) stays) (sym long) (All-tail (λ (s : Stay). s.cell < length grid) stay stays few)) in (
      (λ h. let r = rest.0 h in let o = one.0 r.0 in (
        o.0,
        λ s in_s at same. ⊎_elim
            (λ e. o.1 (subst (λ (z : Stay). z.cell ≡ cell) (sym e) at, same))
            (λ later. r.1 s later at same)
            (head_or_tail stays stay s in_s),
      )),
      (λ h. rest.1 (one.1 (h.0, λ n. h.1 stay (at_head stays stay) n.0 n.1), λ s in_s. h.1 s (in_tail stays stay s in_s))),
    )
