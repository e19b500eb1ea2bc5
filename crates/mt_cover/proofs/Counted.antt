-- Lists that are put together place by place.
use Rattle.std.proofs.Common.{◌≡◌, ℕ, zero, suc, ◌+◌, ◌-◌, ◌*◌, ◌≤◌, List, [], ◌∷◌, ◌++◌, map, flat_map, refl, sym, ap, ◌∙◌, arith, append_assoc}
use Rattle.std.proofs.lemmas.List.{append-nil, map-append}
use Rattle.std.proofs.lemmas.List.Concat.{flat_map-append}
use Rattle.std.specs.List.{range_with_len}
use Rattle.mt_cover.specs.declared.bounding_box.Extent.{Extent}
use Rattle.mt_cover.specs.declared.stays.Stay.{Stay}
use Rattle.mt_cover.specs.Cells.{cells, cells_in, place, cells_between, stays_of}

range_last : (a n : ℕ) → range_with_len a (suc n) ≡ range_with_len a n ++ (a + n) ∷ []
range_last a zero = let e : a + 0 ≡ a = omega arith in rw e refl
range_last a (suc n) = let e : a + suc n ≡ (a + 1) + n = omega arith in rw e (ap (λ (l : List ℕ). a ∷ l) (range_last (a + 1) n))

-- one place more
pub range_more : (a k : ℕ) → a ≤ k → range_with_len a ((k + 1) - a) ≡ range_with_len a (k - a) ++ k ∷ []
range_more a k begun =
    let e : (k + 1) - a ≡ suc (k - a) = omega arith in
    let f : a + (k - a) ≡ k = omega arith in
    rw e (range_last a (k - a) ∙ ap (λ (n : ℕ). range_with_len a (k - a) ++ n ∷ []) f)

pub map_more : {X : Type 0} (f : ℕ → X) (xs : List X) (a k : ℕ) → a ≤ k → (xs ++ map f (range_with_len a (k - a))) ++ f k ∷ [] ≡ xs ++ map f (range_with_len a ((k + 1) - a))
map_more {X} f xs a k begun =
    append_assoc xs (map f (range_with_len a (k - a))) (f k ∷ [])
    ∙ ap (λ (ys : List X). xs ++ ys) (sym (map-append f (range_with_len a (k - a)) (k ∷ [])) ∙ ap (map f) (sym (range_more a k begun)))

pub flat_map_on : {X : Type 0} (f : ℕ → List X) (xs : List X) (a k : ℕ) → a ≤ k
    → (xs ++ flat_map f (range_with_len a (k - a))) ++ f k ≡ xs ++ flat_map f (range_with_len a ((k + 1) - a))
flat_map_on {X} f xs a k begun =
    append_assoc xs (flat_map f (range_with_len a (k - a))) (f k)
    ∙ ap (λ (ys : List X). xs ++ ys) (ap (λ (ys : List X). flat_map f (range_with_len a (k - a)) ++ ys) (sym (append-nil (f k)))
    ∙ sym (flat_map-append f (range_with_len a (k - a)) (k ∷ [])) ∙ ap (flat_map f) (sym (range_more a k begun)))

-- a map over a flat map
pub map-flat_map : {X Y Z : Type 0} (g : Y → Z) (f : X → List Y) (xs : List X) → map g (flat_map f xs) ≡ flat_map (λ x. map g (f x)) xs
map-flat_map g f [] = refl
map-flat_map {X} {Y} {Z} g f (x ∷ xs) = map-append g (f x) (flat_map f xs) ∙ ap (λ (ys : List Z). map g (f x) ++ ys) (map-flat_map g f xs)

pub map-map : {X Y Z : Type 0} (g : Y → Z) (f : X → Y) (xs : List X) → map g (map f xs) ≡ map (λ x. g (f x)) xs
map-map g f [] = refl
map-map {X} {Y} {Z} g f (x ∷ xs) = ap (λ (ys : List Z). g (f x) ∷ ys) (map-map g f xs)

-- the stay in a column of a line
abbrev pub stay : ℕ → ℕ → ℕ → ℕ → Stay
stay line from to column = record { cell = 64 * line + column; from = from; to = to }

pub line_is : (e : Extent) (line from to first k : ℕ) → first ≡ place e.low → k - first ≡ suc (place e.high) - place e.low
    → map (stay line from to) (range_with_len first (k - first)) ≡ stays_of from to (cells_in e line)
line_is e line from to first k first_is number_is =
    rw (number_is, first_is) (sym (map-map (λ (cell : ℕ). record { cell = cell; from = from; to = to }) (λ (column : ℕ). 64 * line + column) (cells_between e)))

pub cells_is : (x y : Extent) (from to first k : ℕ) → first ≡ place y.low → k - first ≡ suc (place y.high) - place y.low
    → flat_map (λ (line : ℕ). stays_of from to (cells_in x line)) (range_with_len first (k - first)) ≡ stays_of from to (cells x y)
cells_is x y from to first k first_is number_is =
    rw (number_is, first_is) (sym (map-flat_map (λ (cell : ℕ). record { cell = cell; from = from; to = to }) (cells_in x) (cells_between y)))

pub flat_map_next : {X : Type 0} (f : ℕ → List X) (k : ℕ) → flat_map f (range_with_len 0 k) ++ f k ≡ flat_map f (range_with_len 0 (k + 1))
flat_map_next {X} f k =
    let e : k + 1 ≡ suc k = omega arith in
    let none : 0 + k ≡ k = omega arith in
    let last : range_with_len 0 (suc k) ≡ range_with_len 0 k ++ k ∷ [] = rw none at (range_last 0 k) in
    ap (λ (ys : List X). flat_map f (range_with_len 0 k) ++ ys) (sym (append-nil (f k)))
    ∙ sym (flat_map-append f (range_with_len 0 k) (k ∷ []))
    ∙ ap (flat_map f) (sym last ∙ ap (range_with_len 0) (sym e))
