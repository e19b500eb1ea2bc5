-- What a slice adds to the cover, and its box.
use Rattle.std.proofs.Common.{◌≡◌, ℕ, min, ◌+◌, ◌-◌, ◌*◌, ◌<◌, ⊎_elim, List, [], ◌∷◌, Some, length, take, drop, refl, sym, ap, ◌∙◌, arith, length-drop, length-take, take_all}
use Rattle.std.proofs.lemmas.Bool.{cases_lt}
use Rattle.std.specs.Prelude.{slice_get}
use Rattle.mt_base.specs.declared.row.Row.{Row}
use Rattle.mt_base.specs.declared.rules.Rules.{Rules}
use Rattle.mt_base.specs.Trajectory.{Trajectory}
use Rattle.mt_cover.specs.declared.bounding_box.BoundingBox.{BoundingBox}
use Rattle.mt_cover.specs.Box.{box_over}
use Rattle.mt_cover.specs.Cells.{cells_of, slice_rows, stays_in, stays_of, stays_over}
use Rattle.mt_cover.specs.Sliced.{slice_by, slice_in, slice_over}
use Rattle.mt_cover.specs.Private.Walk.{part}
use Rattle.mt_cover.proofs.Members.{slice_get-drop, slice_get-take}

over_is : (rules : Rules) (from to : ℕ) (rows : List Row) (bounds : BoundingBox) → 0 < length rows → from + length rows ≡ to
    → ((row : Row) → slice_get rows 0 ≡ Some row → bounds ≡ box_over rows row) → stays_over rules from rows ≡ stays_of from to (cells_of rules bounds)
over_is rules from to [] bounds some to_is area_is = absurd (omega arith)
over_is rules from to (row ∷ rows) bounds some to_is area_is =
    let same = area_is row refl in
    rw (same, ← to_is) refl

-- no more than there are
take_up_to : {X : Type 0} (n : ℕ) (xs : List X) → take n xs ≡ take (min (length xs) n) xs
take_up_to {X} n xs = ⊎_elim
    (λ few. let e : min (length xs) n ≡ length xs = omega arith in rw (e, take_all n xs (omega arith)) (sym (take_all (length xs) xs (omega arith))))
    (λ many. let e : min (length xs) n ≡ n = omega arith in rw e refl)
    (cases_lt (length xs) n)

-- rows in a row, of which a box was gathered
record IsGathered (rows : List Row) (from to : ℕ) (bounds : BoundingBox) : Type 0 where
  some : 0 < length rows
  end : from + length rows ≡ to
  each : (row : Row) → slice_get rows 0 ≡ Some row → bounds ≡ box_over rows row

is_gathered : (t : Trajectory) (rows : List Row) (number skipped end from to : ℕ) (bounds : BoundingBox) → 0 < number → rows ≡ t.rows → end ≡ t.start + length t.rows
    → from ≡ t.start + skipped → to ≡ min end (from + number) → from < end
    → ((row : Row) → slice_get rows (from - t.start) ≡ Some row → bounds ≡ box_over (part rows (from - t.start) (to - from)) row)
    → IsGathered (part t.rows skipped number) from to bounds
is_gathered t rows number skipped end from to bounds long rows_is end_is from_is to_is some area_is =
    let place : from - t.start ≡ skipped = omega (arith, from_is) in
    let rest : length (drop skipped t.rows) ≡ length t.rows - skipped = length-drop skipped t.rows in
    let count : min (length (drop skipped t.rows)) number ≡ to - from = omega (arith, rest, end_is, from_is, to_is, some) in
    let all : part t.rows skipped (to - from) ≡ part t.rows skipped number = sym (take_up_to number (drop skipped t.rows) ∙ ap (λ (n : ℕ). take n (drop skipped t.rows)) count) in
    let size : length (part t.rows skipped number) ≡ to - from = omega (arith, length-take number (drop skipped t.rows), count) in
    record {
      some = omega (arith, size, to_is, some, long);
      end = omega (arith, size, from_is, to_is, some);
      each = λ row at. let none : skipped + 0 ≡ skipped = omega arith in
          let there : slice_get t.rows skipped ≡ Some row = rw none at (sym (slice_get-drop skipped t.rows 0) ∙ sym (slice_get-take number (drop skipped t.rows) 0 long) ∙ at) in
          rw (rows_is, place, all) at (area_is row (rw (rows_is, place) there));
    }

pub slice_is : (rules : Rules) (t : Trajectory) (rows : List Row) (i end from to : ℕ) (bounds : BoundingBox) → rows ≡ t.rows → end ≡ t.start + length t.rows → from ≡ t.start + 256 * i
    → to ≡ min end (from + 256) → from < end
    → ((row : Row) → slice_get rows (from - t.start) ≡ Some row → bounds ≡ box_over (part rows (from - t.start) (to - from)) row)
    → stays_in rules t i ≡ stays_of from to (cells_of rules bounds)
slice_is rules t rows i end from to bounds rows_is end_is from_is to_is some area_is =
    let h = is_gathered t rows 256 (256 * i) end from to bounds (omega arith) rows_is end_is from_is to_is some area_is in
    let end_of : (t.start + 256 * i) + length (slice_rows t.rows i) ≡ to = omega (arith, h.end, from_is) in
    over_is rules (t.start + 256 * i) to (slice_rows t.rows i) bounds h.some end_of h.each ∙ ap (λ (n : ℕ). stays_of n to (cells_of rules bounds)) (sym from_is)

slice_over_is : (rules : Rules) (rows : List Row) (bounds : BoundingBox) → 0 < length rows → ((row : Row) → slice_get rows 0 ≡ Some row → bounds ≡ box_over rows row)
    → slice_over rules rows ≡ slice_by rules bounds
slice_over_is rules [] bounds some area_is = absurd (omega arith)
slice_over_is rules (row ∷ rows) bounds some area_is = ap (slice_by rules) (sym (area_is row refl))

pub box_is : (rules : Rules) (t : Trajectory) (rows : List Row) (i end from to : ℕ) (bounds : BoundingBox) → rows ≡ t.rows → end ≡ t.start + length t.rows → from ≡ t.start + 128 * i
    → to ≡ min end (from + 128) → from < end
    → ((row : Row) → slice_get rows (from - t.start) ≡ Some row → bounds ≡ box_over (part rows (from - t.start) (to - from)) row)
    → slice_in rules t i ≡ slice_by rules bounds
box_is rules t rows i end from to bounds rows_is end_is from_is to_is some area_is =
    let h = is_gathered t rows 128 (128 * i) end from to bounds (omega arith) rows_is end_is from_is to_is some area_is in
    slice_over_is rules (take 128 (drop (128 * i) t.rows)) bounds h.some h.each
