-- Pages that are shared: reads, writes and copies of them, as reads and writes of rows.
use Rattle.std.proofs.Common.{◌≡◌, ℕ, zero, suc, ◌/◌, ◌%◌, ◌<◌, ◌⊎◌, inl, inr, Ok, Err, List, [], ◌∷◌, Option, None, length, get_or, set, take, map, replicate, refl, sym, ap, ◌∙◌, subst, arith}
use Rattle.std.specs.List.{AllZip, AllClonesOf}
use Rattle.std.specs.Arc.{arc_value}
use Rattle.std.specs.Option.{option_map}
use Rattle.std.specs.Result.{OnErr, OnOk}
use Rattle.std.specs.Vec.{with_item}
use Rattle.std.specs.declared.result.Result.{Result}
use Rattle.std.specs.declared.sync.Arc.{Arc}
use Rattle.std.specs.declared.vec.Vec.{Vec}
use Rattle.std.proofs.Math.Seq.{map-set_same}
use Rattle.std.proofs.lemmas.List.{length-map, map-set, get_or-map}
use Rattle.mt_paged.specs.Private.Pages.{AreRows, rows_joined, page_places, row, rows}
use Rattle.mt_paged.proofs.Rows.{get_listed, row_is_full, row_of, rows_set, set_listed}

-- a list and its copy agree in what f says of their members
copied_each : {X Y : Type 0} (R : X → X → Type 0) (f : X → Y) → ((x y : X) → R x y → f y ≡ f x) → (xs ys : List X) → AllZip R xs ys → map f ys ≡ map f xs
copied_each R f same [] [] zip = refl
copied_each R f same [] (y ∷ ys) zip = absurd zip
copied_each R f same (x ∷ xs) [] zip = absurd zip
copied_each {X} {Y} R f same (x ∷ xs) (y ∷ ys) zip = ap (λ (z : Y). z ∷ map f ys) (same x y zip.0) ∙ ap (λ (z : List Y). f x ∷ z) (copied_each R f same xs ys zip.1)

-- what stands where a value is to be written: the old one, or a copy of it
pub copied : {X Y Z L : Type 0} (R : X → X → Type 0) (f : X → Y) → ((x y : X) → R x y → f y ≡ f x) → (old new : Vec X Z)
    → (new ≡ old) ⊎ (AllZip R old.items new.items × L) → map f new.items ≡ map f old.items
copied {X} {Y} {Z} R f same old new either = elim either [
  | inl e ↦ ap (λ (v : Vec X Z). map f v.items) e
  | inr copy ↦ copied_each R f same old.items new.items copy.0
]

-- many copies of one value agree in what f says of them
pub all_copies : {X Y : Type 0} (R : X → X → Type 0) (f : X → Y) (x : X) → ((y : X) → R x y → f y ≡ f x) → (ys : List X) → AllClonesOf R x ys → map f ys ≡ replicate (length ys) (f x)
all_copies R f x same [] all = refl
all_copies {X} {Y} R f x same (y ∷ ys) all =
    let first : f y ≡ f x = elim all.0 [ inl e ↦ ap f e | inr copy ↦ same y copy ] in
    ap (λ (z : Y). z ∷ map f ys) first ∙ ap (λ (z : List Y). f x ∷ z) (all_copies R f x same ys all.1)

pub empty_places : (T Z : Type 0) (n : ℕ) → page_places {T = T} {Z = Z} (replicate n None) ≡ replicate n None
empty_places T Z zero = refl
empty_places T Z (suc n) = ap (λ (xs : List (Option T)). None ∷ xs) (empty_places T Z n)

pub on_err : {T E P : Type 0} (r : Result T E) → P → OnErr r P
on_err (Ok x) p = tt
on_err (Err e) p = p

pub on_either : {T E P Q C : Type 0} (r : Result T E) → OnOk r P → OnErr r Q → (P → C) → (Q → C) → C
on_either (Ok x) p q then_p then_q = then_p p
on_either (Err e) p q then_p then_q = then_q q

-- two pages with one value have the same places
pub same_row : {T Y Z : Type 0} (page copy : Arc (Vec (Option (Arc T Z)) Y) Z) → arc_value copy ≡ arc_value page → row copy ≡ row page
same_row {T} {Y} {Z} page copy same = ap (λ (v : Vec (Option (Arc T Z)) Y). page_places v.items) same

-- the page of a place
row_at : {T Y Z : Type 0} (count : ℕ) (pages : List (Arc (Vec (Option (Arc T Z)) Y) Z)) (i : ℕ) (page : Arc (Vec (Option (Arc T Z)) Y) Z) → AreRows count (rows pages) → i < count
    → page ≡ get_or pages (i / 32) page → get_or (rows pages) (i / 32) [] ≡ row page
row_at count pages i page are within at_page =
    let inside : i / 32 < length pages = omega (arith, row_of count (rows pages) i are within, length-map pages row) in
    get_or-map row pages (i / 32) page [] inside ∙ ap row (sym at_page)

pub page_is_full : {T Y Z : Type 0} (count : ℕ) (pages : List (Arc (Vec (Option (Arc T Z)) Y) Z)) (i : ℕ) (page : Arc (Vec (Option (Arc T Z)) Y) Z) → AreRows count (rows pages) → i < count
    → page ≡ get_or pages (i / 32) page → length (row page) ≡ 32
page_is_full {T} count pages i page are within at_page =
    sym (ap (λ (r : List (Option T)). length r) (row_at count pages i page are within at_page)) ∙ row_is_full count (rows pages) i are within

-- what a read of a page and of its place gives
pub read : {T Y Z : Type 0} (count : ℕ) (pages : List (Arc (Vec (Option (Arc T Z)) Y) Z)) (i : ℕ) (page : Arc (Vec (Option (Arc T Z)) Y) Z) (place : Option (Arc T Z)) → AreRows count (rows pages) → i < count
    → page ≡ get_or pages (i / 32) page → place ≡ get_or (arc_value page).items (i % 32) place
    → get_or (take count (rows_joined (rows pages))) i None ≡ option_map arc_value place
read {T} {Y} {Z} count pages i page place are within at_page at_place =
    let full = page_is_full count pages i page are within at_page in
    let long = length-map (arc_value page).items (option_map (arc_value {X = T} {Z = Z})) in
    get_listed count (rows pages) i None are within
    ∙ ap (λ (r : List (Option T)). get_or r (i % 32) None) (row_at count pages i page are within at_page)
    ∙ get_or-map (option_map (arc_value {X = T} {Z = Z})) (arc_value page).items (i % 32) place None (omega (arith, full, long))
    ∙ ap (option_map (arc_value {X = T} {Z = Z})) (sym at_place)

-- what a page whose place is replaced leaves in the table
pub written : {T Y Z : Type 0} (count : ℕ) (pages : List (Arc (Vec (Option (Arc T Z)) Y) Z)) (table left : Vec (Arc (Vec (Option (Arc T Z)) Y) Z) Y) (i : ℕ) (page new : Arc (Vec (Option (Arc T Z)) Y) Z) (a : Option T)
    → AreRows count (rows pages) → i < count → rows table.items ≡ rows pages → page ≡ get_or table.items (i / 32) page → row new ≡ set (row page) (i % 32) a → left ≡ with_item table (i / 32) new
    → AreRows count (rows left.items) × (take count (rows_joined (rows left.items)) ≡ set (take count (rows_joined (rows pages))) i a)
written {T} {Y} {Z} count pages table left i page new a are within same at_page is there =
    let of_table = subst (AreRows count) (sym same) are in
    let at = row_at count table.items i page of_table within at_page in
    let rows_are : rows left.items ≡ set (rows table.items) (i / 32) (set (get_or (rows table.items) (i / 32) []) (i % 32) a) =
    ap (λ (v : Vec (Arc (Vec (Option (Arc T Z)) Y) Z) Y). rows v.items) there
    ∙ map-set row table.items (i / 32) new
    ∙ ap (λ (r : List (Option T)). set (rows table.items) (i / 32) r) (is ∙ ap (λ (r : List (Option T)). set r (i % 32) a) (sym at)) in (
      subst (AreRows count) (sym rows_are) (rows_set count (rows table.items) i a of_table within),
      ap (λ (z : List (List (Option T))). take count (rows_joined z)) rows_are
          ∙ set_listed count (rows table.items) i a of_table within
          ∙ ap (λ (z : List (List (Option T))). set (take count (rows_joined z)) i a) same,
    )

-- what a page that stays leaves in the table
pub kept : {T Y Z : Type 0} (pages : List (Arc (Vec (Option (Arc T Z)) Y) Z)) (table left : Vec (Arc (Vec (Option (Arc T Z)) Y) Z) Y) (i : ℕ) (page new : Arc (Vec (Option (Arc T Z)) Y) Z)
    → rows table.items ≡ rows pages → page ≡ get_or table.items i page → row new ≡ row page → left ≡ with_item table i new → rows left.items ≡ rows pages
kept {T} {Y} {Z} pages table left i page new same at_page is there =
    ap (λ (v : Vec (Arc (Vec (Option (Arc T Z)) Y) Z) Y). rows v.items) there ∙ map-set_same row table.items i new page (is ∙ ap row at_page) ∙ same
