-- No public contract names these: they are of private steps and of proofs.
-- A list in pages of 32 places.
use Rattle.std.specs.Prelude.{◌≡◌, ℕ, ◌*◌, ◌≤◌, List, [], ◌∷◌, ◌++◌, length, map, All, Option}
use Rattle.std.specs.Option.{option_map}
use Rattle.std.specs.Arc.{arc_value}
use Rattle.std.specs.declared.sync.Arc.{Arc}
use Rattle.std.specs.declared.vec.Vec.{Vec}

module _ {X : Type 0} where
  -- the rows, one after another
  abbrev pub rows_joined : List (List X) → List X
  rows_joined [] = []
  rows_joined (row ∷ rows) = row ++ rows_joined rows

  -- each row has 32 places, and together they have as many as are counted
  pub record AreRows (count : ℕ) (rows : List (List X)) : Type 0 where
    pub full : All (λ row. length row ≡ 32) rows
    pub enough : count ≤ 32 * length rows

-- what stands at the places of a page
abbrev pub page_places : {T Z : Type 0} → List (Option (Arc T Z)) → List (Option T)
page_places {T} {Z} items = map (option_map (arc_value {X = T} {Z = Z})) items

-- what stands at the places of a page that is shared
abbrev pub row : {T Y Z : Type 0} → Arc (Vec (Option (Arc T Z)) Y) Z → List (Option T)
row {T} {Y} {Z} page = page_places (arc_value {X = Vec (Option (Arc T Z)) Y} {Z = Z} page).items

-- the pages, each as what stands at its places
abbrev pub rows : {T Y Z : Type 0} → List (Arc (Vec (Option (Arc T Z)) Y) Z) → List (List (Option T))
rows pages = map row pages
