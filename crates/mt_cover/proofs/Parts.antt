-- Parts of a list, and of the rows of segments.
use Rattle.std.proofs.Common.{◌≡◌, ℕ, zero, suc, ◌+◌, ◌<◌, List, [], ◌∷◌, ◌++◌, Some, take, drop, refl, ap, ◌∙◌, arith}
use Rattle.std.proofs.Math.Seq.{take-add}
use Rattle.std.proofs.lemmas.List.{drop-drop}
use Rattle.std.specs.Prelude.{slice_get}
use Rattle.mt_base.specs.declared.row.Row.{Row}
use Rattle.mt_base.specs.Trajectory.{next_row, straight_rows}
use Rattle.mt_track.specs.Rows.{row_after}
use Rattle.mt_track.proofs.Straight.{row_after-next, row_after-none}
use Rattle.mt_cover.specs.Private.Walk.{part}

pub part-cons : {X : Type 0} (xs : List X) (j n : ℕ) (x : X) → slice_get xs j ≡ Some x → part xs j (suc n) ≡ x ∷ part xs (j + 1) n
part-cons [] j n x at = cc
part-cons {X} (y ∷ ys) zero n x at = let same : y ≡ x = cc in ap (λ (z : X). z ∷ take n ys) same
part-cons (y ∷ ys) (suc j) n x at = let e : suc j + 1 ≡ suc (j + 1) = omega arith in rw e (part-cons ys j n x at)

pub part-more : {X : Type 0} (xs : List X) (j m n : ℕ) → part xs j (m + n) ≡ part xs j m ++ part xs (j + m) n
part-more {X} xs j m n = take-add m n (drop j xs) ∙ ap (λ (ys : List X). part xs j m ++ take n ys) (drop-drop m j xs)

-- where each row goes on from the one before
pub part-straight : (rows : List Row) (j n : ℕ) (f : Row) → ((k : ℕ) → k < n → slice_get rows (j + k) ≡ Some (row_after f k)) → part rows j n ≡ straight_rows f n
part-straight rows j zero f each = refl
part-straight rows j (suc n) f each =
    let here : j + 0 ≡ j = omega arith in
    let first : slice_get rows j ≡ Some f = rw (here, row_after-none f) at (each 0 (omega arith)) in
    part-cons rows j n f first
    ∙ ap (λ (rest : List Row). f ∷ rest) (part-straight rows (j + 1) n (next_row f)
    (λ k below. let e : (j + 1) + k ≡ j + suc k = omega arith in rw (e, row_after-next f k) (each (suc k) (omega arith))))
