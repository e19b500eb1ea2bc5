-- Each cell of a cover is one of 4,096.
use Rattle.std.proofs.Common.{ℕ, suc, ◌+◌, ◌-◌, ◌*◌, ◌<◌, ◌≤◌, ℤ, pos, negsuc, ◌+ℤ◌, List, [], ◌∷◌, All, length, flat_map, arith}
use Rattle.std.proofs.lemmas.List.Elements.{All-append, All-head, All-map, All-nil, All-tail}
use Rattle.std.proofs.lemmas.List.FromFn.{get_or-range_with_len, length-range_with_len}
use Rattle.std.specs.List.{range_with_len}
use Rattle.mt_base.specs.declared.row.Row.{Row}
use Rattle.mt_base.specs.declared.rules.Rules.{Rules}
use Rattle.mt_base.specs.Trajectory.{Trajectory}
use Rattle.mt_cover.specs.declared.bounding_box.Extent.{Extent}
use Rattle.mt_cover.specs.declared.stays.Stay.{Stay}
use Rattle.mt_cover.specs.Box.{box_over, half, wider}
use Rattle.mt_cover.specs.Cells.{cells, cells_in, cells_of, place, place_from, cells_between, slice_rows, stays_in, stays_over}

place_from_few : (z : ℤ) → place_from z < 64
place_from_few (pos n) = omega arith
place_from_few (negsuc n) = omega arith

All-range : (a n m : ℕ) → a + n ≤ m → All (λ k. k < m) (range_with_len a n)
All-range a n m few k d below =
    let within : k < n = omega (arith, below, length-range_with_len a n) in
    rw (get_or-range_with_len a n k d within) (omega (arith, within))

All-flat_map : {X Y : Type 0} (P : Y → Type 0) (Q : X → Type 0) (f : X → List Y) → ((x : X) → Q x → All P (f x)) → (xs : List X) → All Q xs → All P (flat_map f xs)
All-flat_map P Q f each [] all = All-nil P
All-flat_map P Q f each (x ∷ xs) all = All-append P (f x) (flat_map f xs) (each x (All-head Q x xs all)) (All-flat_map P Q f each xs (All-tail Q x xs all))

All-places : (e : Extent) → All (λ k. k < 64) (cells_between e)
All-places e =
    let a = place_from_few (e.low +ℤ pos 3686400) in
    let b = place_from_few (e.high +ℤ pos 3686400) in
    All-range (place e.low) (suc (place e.high) - place e.low) 64 (omega (arith, a, b))

All-cells : (x y : Extent) → All (λ cell. cell < 4096) (cells x y)
All-cells x y = All-flat_map (λ (cell : ℕ). cell < 4096) (λ (line : ℕ). line < 64) (cells_in x)
    (λ line few. All-map (λ (cell : ℕ). cell < 4096) (λ (column : ℕ). 64 * line + column) (cells_between x) (λ k d below. let c = All-places x k d below in omega (arith, c, few)))
    (cells_between y) (All-places y)

All-stays_over : (rules : Rules) (from : ℕ) (rows : List Row) → All (λ (stay : Stay). stay.cell < 4096) (stays_over rules from rows)
All-stays_over rules from [] = All-nil (λ (stay : Stay). stay.cell < 4096)
All-stays_over rules from (row ∷ rows) = All-map (λ (stay : Stay). stay.cell < 4096) (λ (cell : ℕ). record { cell = cell; from = from; to = from + length (row ∷ rows) })
    (cells_of rules (box_over (row ∷ rows) row)) (All-cells (wider (box_over (row ∷ rows) row).x ((box_over (row ∷ rows) row).margin +ℤ half rules))
    (wider (box_over (row ∷ rows) row).y ((box_over (row ∷ rows) row).margin +ℤ half rules)))

pub All-slices : (rules : Rules) (t : Trajectory) (n : ℕ) → All (λ (stay : Stay). stay.cell < 4096) (flat_map (stays_in rules t) (range_with_len 0 n))
All-slices rules t n = All-flat_map (λ (stay : Stay). stay.cell < 4096) (λ (i : ℕ). i < n) (stays_in rules t)
    (λ i few. All-stays_over rules (t.start + 256 * i) (slice_rows t.rows i)) (range_with_len 0 n) (All-range 0 n n (omega arith))
