-- Near items, list by list and stay by stay.
use Rattle.std.proofs.Common.{◌≡◌, ◌↔◌, ◌⊎◌, inl, inr, ⊎_elim, ℕ, zero, suc, ◌+◌, ◌<◌, List, [], ◌∷◌, ◌++◌, Option, None, Some, Contains, length, get_or, set, take, map, replicate, refl, sym, ap, ◌∙◌, subst, Bool}
use Rattle.std.proofs.lemmas.List.{get_or-map, map-set, take_more}
use Rattle.std.proofs.lemmas.List.Elements.{Contains-append_left, Contains-push, Contains-push_cases}
use Rattle.mt_cover.specs.declared.stays.Stay.{Stay}
use Rattle.mt_grid.specs.declared.placed.Placed.{Placed}
use Rattle.mt_grid.specs.Lists.{AreNear, IsItemOf, IsNear, IsNearIn, list_at}
use Rattle.mt_grid.specs.Private.Lists.{list_or_empty}
use Rattle.mt_grid.specs.Private.Marks.{AreMarked, IsMarked}

pub map-empty : (n : ℕ) → map list_or_empty (replicate n None) ≡ replicate n []
map-empty zero = refl
map-empty (suc n) = ap (λ (xs : List (List Placed)). [] ∷ xs) (map-empty n)

-- a member of a front that is one longer
pub Contains-more : {X : Type 0} (xs : List X) (i : ℕ) (d y : X) → i < length xs → Contains (take (i + 1) xs) y ↔ (Contains (take i xs) y ⊎ (get_or xs i d ≡ y))
Contains-more {X} xs i d y below =
    let e : take (i + 1) xs ≡ take i xs ++ get_or xs i d ∷ [] = take_more xs i d below in (
      (λ h. Contains-push_cases (take i xs) (get_or xs i d) y (subst (λ (zs : List X). Contains zs y) e h)),
      (λ h. subst (λ (zs : List X). Contains zs y) (sym e) (⊎_elim
          (λ front. Contains-append_left (take i xs) (get_or xs i d ∷ []) y front)
          (λ last. subst (λ (z : X). Contains (take i xs ++ get_or xs i d ∷ []) z) last (Contains-push (take i xs) (get_or xs i d))) h)),
    )

IsNearIn-more : (list : List Placed) (i : ℕ) (d : Placed) (stay : Stay) (item : ℕ) → i < length list
    → IsNearIn (take (i + 1) list) stay item ↔ (IsNearIn (take i list) stay item ⊎ IsItemOf (get_or list i d) stay item)
IsNearIn-more list i d stay item below = (
  (λ h. ⊎_elim
      (λ front. inl (record { by = h.by; of = front; item_of = h.item_of }))
      (λ last. inr (subst (λ (p : Placed). IsItemOf p stay item) (sym last) h.item_of))
      ((Contains-more list i d h.by below).0 h.of)),
  (λ h. ⊎_elim
      (λ near. record { by = near.by; of = (Contains-more list i d near.by below).1 (inl near.of); item_of = near.item_of })
      (λ last. record { by = get_or list i d; of = (Contains-more list i d (get_or list i d) below).1 (inr refl); item_of = last })
      h),
)

-- two steps of "adds exactly"
more : (P Q R S T : Type 0) → (S ↔ (R ⊎ P)) → (T ↔ (S ⊎ Q)) → (U : Type 0) → (U ↔ (P ⊎ Q)) → T ↔ (R ⊎ U)
more P Q R S T first second U both = (
  (λ t. ⊎_elim (λ s. ⊎_elim (λ r. inl r) (λ p. inr (both.1 (inl p))) (first.0 s)) (λ q. inr (both.1 (inr q))) (second.0 t)),
  (λ h. ⊎_elim (λ r. second.1 (inl (first.1 (inl r)))) (λ u. ⊎_elim (λ p. second.1 (inl (first.1 (inr p)))) (λ q. second.1 (inr q)) (both.0 u)) h),
)

pub near_more : (list : List Placed) (i : ℕ) (d : Placed) (stay : Stay) (first old new : List Bool) → i < length list
    → ((item : ℕ) → IsMarked old item ↔ (IsMarked first item ⊎ IsNearIn (take i list) stay item))
    → ((item : ℕ) → IsMarked new item ↔ (IsMarked old item ⊎ IsItemOf (get_or list i d) stay item))
    → (item : ℕ) → IsMarked new item ↔ (IsMarked first item ⊎ IsNearIn (take (i + 1) list) stay item)
near_more list i d stay first old new below before step item =
    more _ _ _ _ _ (before item) (step item) _ (IsNearIn-more list i d stay item below)

-- and stay by stay
IsNear-more : (grid : List (List Placed)) (stays : List Stay) (i : ℕ) (d : Stay) (item : ℕ) → i < length stays
    → IsNear grid (take (i + 1) stays) item ↔ (IsNear grid (take i stays) item ⊎ IsNearIn (list_at grid (get_or stays i d).cell) (get_or stays i d) item)
IsNear-more grid stays i d item below = (
  (λ h. ⊎_elim
      (λ front. inl (record { stay = h.stay; of = front; there = h.there }))
      (λ last. inr (subst (λ (s : Stay). IsNearIn (list_at grid s.cell) s item) (sym last) h.there))
      ((Contains-more stays i d h.stay below).0 h.of)),
  (λ h. ⊎_elim
      (λ near. record { stay = near.stay; of = (Contains-more stays i d near.stay below).1 (inl near.of); there = near.there })
      (λ last. record { stay = get_or stays i d; of = (Contains-more stays i d (get_or stays i d) below).1 (inr refl); there = last })
      h),
)

pub near_on : (grid : List (List Placed)) (stays : List Stay) (i : ℕ) (d : Stay) (old new : List Bool) → i < length stays
    → ((item : ℕ) → IsMarked old item ↔ IsNear grid (take i stays) item)
    → ((item : ℕ) → IsMarked new item ↔ (IsMarked old item ⊎ IsNearIn (list_at grid (get_or stays i d).cell) (get_or stays i d) item))
    → (item : ℕ) → IsMarked new item ↔ IsNear grid (take (i + 1) stays) item
near_on grid stays i d old new below before step item =
    let both = IsNear-more grid stays i d item below in (
      (λ h. ⊎_elim (λ o. both.1 (inl ((before item).0 o))) (λ n. both.1 (inr n)) ((step item).0 h)),
      (λ h. ⊎_elim (λ p. (step item).1 (inl ((before item).1 p))) (λ n. (step item).1 (inr n)) (both.0 h)),
    )

-- in order, each once
pub listed : (grid : List (List Placed)) (stays : List Stay) (marks : List Bool) (items : List ℕ) → ((item : ℕ) → IsMarked marks item ↔ IsNear grid stays item)
    → AreMarked marks items → AreNear grid stays items
listed grid stays marks items near are = record {
  rising = are.rising;
  same = λ item. ((λ h. (near item).0 ((are.same item).0 h)), (λ h. (are.same item).1 ((near item).1 h)));
}

-- the list of a cell, from what stands at its place
pub list_is : (cells : List (Option (List Placed))) (cell : ℕ) (o : Option (List Placed)) → cell < length cells → o ≡ get_or cells cell None
    → list_at (map list_or_empty cells) cell ≡ list_or_empty o
list_is cells cell o below is = get_or-map list_or_empty cells cell None [] below ∙ ap list_or_empty (sym is)

-- the lists with another list at the place of a cell
pub list_replaced : (cells new : List (Option (List Placed))) (grid : List (List Placed)) (cell : ℕ) (held list : List Placed) → map list_or_empty cells ≡ grid → held ≡ list
    → new ≡ set cells cell (Some held) → map list_or_empty new ≡ set grid cell list
list_replaced cells new grid cell held list was same is =
    ap (map list_or_empty) is ∙ map-set list_or_empty cells cell (Some held) ∙ ap (λ (l : List Placed). set (map list_or_empty cells) cell l) same ∙ ap (λ (g : List (List Placed)). set g cell list) was
