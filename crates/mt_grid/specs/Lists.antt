-- A grid: 4,096 lists, one for each cell, of items and the seconds for which they count to it.
use Rattle.std.specs.Prelude.{◌≡◌, ◌↔◌, ◌⊎◌, ℕ, length, ◌<◌, List, [], ◌∷◌, ◌++◌, Contains, All, fold, filter, not, nat_eq, slice_index_or, slice_set}
use Rattle.std.specs.List.Sorted.{IsStrictlyIncreasing}
use Rattle.mt_cover.specs.declared.stays.Stay.{Stay}
use Rattle.mt_cover.specs.Cells.{Overlap, ShareAt}
use Rattle.mt_grid.specs.declared.placed.Placed.{Placed}

-- the list of a cell
abbrev pub list_at : List (List Placed) → ℕ → List Placed
list_at grid cell = slice_index_or grid cell []

-- each stay's cell is one of the grid's
abbrev pub AreInGrid : List Stay → Type 0
AreInGrid stays = All (λ stay. stay.cell < 4096) stays

-- an item for the seconds of a stay
abbrev pub placed : ℕ → Stay → Placed
placed item stay = record { item = item; from = stay.from; to = stay.to }

-- `with_stay`, `with_stays`: the grid with an item added at a stay, and at some
abbrev pub with_stay : ℕ → List (List Placed) → Stay → List (List Placed)
with_stay item grid stay = slice_set grid stay.cell (list_at grid stay.cell ++ placed item stay ∷ [])

abbrev pub with_stays : ℕ → List (List Placed) → List Stay → List (List Placed)
with_stays item grid stays = fold (with_stay item) grid stays

-- `others`, `without_stay`, `without_stays`: the grid without an item at a stay, and at some
abbrev pub others : ℕ → List Placed → List Placed
others item list = filter (λ p. not (nat_eq p.item item)) list

abbrev pub without_stay : ℕ → List (List Placed) → Stay → List (List Placed)
without_stay item grid stay = slice_set grid stay.cell (others item (list_at grid stay.cell))

abbrev pub without_stays : ℕ → List (List Placed) → List Stay → List (List Placed)
without_stays item grid stays = fold (without_stay item) grid stays

-- what is placed is this item, in a common second
pub record IsItemOf (p : Placed) (stay : Stay) (item : ℕ) : Type 0 where
  pub is : p.item ≡ item
  pub common : Overlap stay p.from p.to

-- an item of a list is near a stay
pub record IsNearIn (list : List Placed) (stay : Stay) (item : ℕ) : Type 0 where
  pub by : Placed
  pub of : Contains list by
  pub item_of : IsItemOf by stay item

-- an item shares a cell with stays, in a common second
pub record IsNear (grid : List (List Placed)) (stays : List Stay) (item : ℕ) : Type 0 where
  pub stay : Stay
  pub of : Contains stays stay
  pub there : IsNearIn (list_at grid stay.cell) stay item

-- the items near some stays, rising, each once
pub record AreNear (grid : List (List Placed)) (stays : List Stay) (items : List ℕ) : Type 0 where
  pub rising : IsStrictlyIncreasing items
  pub same : (item : ℕ) → Contains items item ↔ IsNear grid stays item

-- an item was put into a cell's list for a stay
pub record IsPutBy (item : ℕ) (stays : List Stay) (cell : ℕ) (p : Placed) : Type 0 where
  pub stay : Stay
  pub of : Contains stays stay
  pub there : stay.cell ≡ cell
  pub is : placed item stay ≡ p

-- a put adds exactly the item for each stay
abbrev pub PutAdds : Type 0
PutAdds = (item : ℕ) (grid : List (List Placed)) (stays : List Stay) (cell : ℕ) (p : Placed) → All (λ (stay : Stay). stay.cell < length grid) stays
    → Contains (list_at (with_stays item grid stays) cell) p ↔ (Contains (list_at grid cell) p ⊎ IsPutBy item stays cell p)

-- a take removes exactly the item at the stays
abbrev pub TakeLeaves : Type 0
TakeLeaves = (item : ℕ) (grid : List (List Placed)) (stays : List Stay) (cell : ℕ) (p : Placed) → All (λ (stay : Stay). stay.cell < length grid) stays
    → Contains (list_at (without_stays item grid stays) cell) p
    ↔ (Contains (list_at grid cell) p × ((stay : Stay) → Contains stays stay → stay.cell ≡ cell → ¬ (p.item ≡ item)))

-- items that share a cell in a second are near
abbrev pub SharersAreNear : Type 0
SharersAreNear = (grid : List (List Placed)) (mine theirs : List Stay) (item k : ℕ) → ShareAt mine theirs k
    → ((stay : Stay) → Contains theirs stay → Contains (list_at grid stay.cell) (placed item stay)) → IsNear grid mine item
