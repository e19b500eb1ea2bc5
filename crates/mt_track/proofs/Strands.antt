-- What strands keep, after a push and at the segment that is found.
use Rattle.std.proofs.Common.{◌≡◌, Bool, ℕ, suc, ◌+◌, ◌-◌, ◌<◌, ◌≤◌, ⊎_elim, List, [], ◌∷◌, ◌++◌, length, get_or, Some, None, All, ap, ◌∙◌, arith, refl, length-append}
use Rattle.std.proofs.lemmas.List.{append-nil}
use Rattle.std.proofs.lemmas.List.Concat.{flat_map-append}
use Rattle.std.proofs.lemmas.List.Elements.{All-append}
use Rattle.std.proofs.lemmas.Option.{get_or_from_slice_get, slice_get-get_or, slice_get_within}
use Rattle.std.proofs.Math.ListN.{get_or-append}
use Rattle.std.proofs.Math.Seq.{get_or-append_right}
use Rattle.std.proofs.lemmas.Bool.{cases_lt, le-ltb, lt-ltb}
use Rattle.std.specs.Prelude.{slice_get}
use Rattle.std.specs.List.{AllAdjacentBelow}
use Rattle.mt_base.specs.declared.row.Row.{Row}
use Rattle.mt_base.specs.Bounds.{IsBoundedOver, IsBoundedRow}
use Rattle.mt_base.specs.Trajectory.{Trajectory, row_at}
use Rattle.mt_track.specs.declared.segment.Segment.{Segment}
use Rattle.mt_track.specs.Laid.{AreSeparateSegments, CoversSecond, Follows, IsLaid, IsStrand, all_rows, edge, extended, rows_of}
use Rattle.mt_track.specs.Rows.{Continues, row_after}
use Rattle.mt_track.proofs.Segments.{Adjoin-push, LiesAt, length-all_rows, lies_at, row_in}
use Rattle.mt_track.proofs.Straight.{All-straight_rows, AllAdjacent-straight_rows, get_or-straight_rows, length-straight_rows, row_after-none}

-- two lists, one after the other: where each goes on from element to element, and from the first list to the second, so do both
AllAdjacent-append : {X : Type 0} (R : X → X → Type 0) (xs ys : List X) → AllAdjacentBelow R xs (length xs) → AllAdjacentBelow R ys (length ys)
    → ((d : X) → 0 < length xs → 0 < length ys → R (get_or xs (length xs - 1) d) (get_or ys 0 d)) → AllAdjacentBelow R (xs ++ ys) (length (xs ++ ys))
AllAdjacent-append R xs ys front back seam k d below = ⊎_elim
    (λ inside. let now : k < length xs = omega arith in
    rw (get_or-append xs ys d k now, get_or-append xs ys d (k + 1) inside) (front k d inside))
    (λ past. ⊎_elim
    (λ last. let at_end : k ≡ length xs - 1 = omega arith in
    let at_start : (k + 1) - length xs ≡ 0 = omega arith in
    let some_front : 0 < length xs = omega arith in
    let some_back : 0 < length ys = omega (arith, length-append xs ys) in
    rw (get_or-append xs ys d k last, get_or-append_right xs ys (k + 1) d past, at_start, at_end) (seam d some_front some_back))
    (λ behind. let one_more : (k + 1) - length xs ≡ (k - length xs) + 1 = omega arith in
    let next : (k - length xs) + 1 < length ys = omega (arith, length-append xs ys) in
    rw (get_or-append_right xs ys k d behind, get_or-append_right xs ys (k + 1) d past, one_more) (back (k - length xs) d next))
    (cases_lt k (length xs)))
    (cases_lt (k + 1) (length xs))

-- a row of a list of bounded rows is bounded
pub IsBoundedRow-slice_get : (rows : List Row) (i : ℕ) (row : Row) → All IsBoundedRow rows → slice_get rows i ≡ Some row → IsBoundedRow row
IsBoundedRow-slice_get rows i row bounded at =
    rw (get_or_from_slice_get rows i row row at) at (bounded i row (slice_get_within rows i row at))

-- the row of a second that a strand covers is bounded
pub IsBoundedRow-row_at : (t : Trajectory) (k : ℕ) (row : Row) → IsStrand t → row_at t k ≡ Some row → IsBoundedRow row
IsBoundedRow-row_at t k row kept at = ⊎_elim
    (λ early. let none : row_at t k ≡ None = rw (lt-ltb k t.start early) refl in cc)
    (λ begun. IsBoundedRow-slice_get t.rows (k - t.start) row kept.bounded (rw (le-ltb k t.start begun) at at))
    (cases_lt k t.start)

-- a segment that follows a strand: the rows on both sides of the border, and what is kept with its rows after those of the strand
seam : (t : Trajectory) (s : Segment) → Follows t s → (d : Row) → 0 < length t.rows → Continues (get_or t.rows (length t.rows - 1) d) (get_or (rows_of s) 0 d)
seam t s follows d some =
    let last = slice_get-get_or t.rows (length t.rows - 1) d (omega arith) in
    let first : get_or (rows_of s) 0 d ≡ s.first = get_or-straight_rows s.first (s.to - s.from) 0 d (omega (arith, follows.some)) ∙ row_after-none s.first in
    rw first (rw last at follows.continues)

pub IsStrand-extended : (t : Trajectory) (s : Segment) → IsStrand t → Follows t s → IsStrand (extended t s)
IsStrand-extended t s kept follows = record {
  bounded = All-append IsBoundedRow t.rows (rows_of s) kept.bounded (All-straight_rows s.first (s.to - s.from) follows.bounded);
  continuous = AllAdjacent-append Continues t.rows (rows_of s) kept.continuous (AllAdjacent-straight_rows s.first (s.to - s.from))
      (λ d some _. seam t s follows d some);
  short = omega (arith, number, follows.adjoins, follows.some, follows.short);
  early = omega (arith, number, follows.adjoins, follows.some, follows.early);
} where
  number : length (t.rows ++ rows_of s) ≡ length t.rows + (s.to - s.from)
  number = length-append t.rows (rows_of s) ∙ ap (λ (n : ℕ). length t.rows + n) (length-straight_rows s.first (s.to - s.from))

pub all_rows-push : (ss : List Segment) (s : Segment) → all_rows (ss ++ s ∷ []) ≡ all_rows ss ++ rows_of s
all_rows-push ss s = flat_map-append rows_of ss (s ∷ []) ∙ ap (λ (rows : List Row). all_rows ss ++ rows) (append-nil (rows_of s))

-- one segment more is laid
pub IsLaid-push : (start end : ℕ) (rvsm : Bool) (ss : List Segment) (s : Segment) → IsLaid start end ss
    → Follows (record { start = start; rows = all_rows ss; rvsm = rvsm }) s
    → AreSeparateSegments (ss ++ s ∷ []) → IsLaid start s.to (ss ++ s ∷ [])
IsLaid-push start end rvsm ss s laid follows apart = record {
  apart = apart;
  adjoin = Adjoin-push start end ss s laid.adjoin (follows.adjoins ∙ length-all_rows start end ss laid.adjoin) follows.some;
  kept = rw (all_rows-push ss s) (IsStrand-extended (record { start = start; rows = all_rows ss; rvsm = rvsm }) s laid.kept follows);
}

-- bounds at the first row and at a later one are bounds over the seconds between
IsBoundedOver-ends : (a : Row) (n : ℕ) → IsBoundedRow a → IsBoundedRow (row_after a n) → IsBoundedOver a n
IsBoundedOver-ends a n first last = record {
  x = record { value = first.x.value; growth = first.x.growth; end = last.x.value };
  y = record { value = first.y.value; growth = first.y.growth; end = last.y.value };
  z = record { value = first.z.value; growth = first.z.growth; end = last.z.value };
  r = record { value = first.r.value; growth = first.r.growth; end = last.r.value };
  w = record { value = first.w.value; growth = first.w.growth; end = last.w.value };
}

-- the segment that is left by halving holds second k
pub found : (start end : ℕ) (rvsm : Bool) (ss : List Segment) (low high k : ℕ) (s : Segment) → IsLaid start end ss → low < high → high ≤ length ss → high - low ≤ 1
    → start ≤ k → edge start ss low ≤ k → k < edge start ss high → s ≡ get_or ss low s → CoversSecond (record { start = start; rows = all_rows ss; rvsm = rvsm }) k s
found start end rvsm ss low high k s laid some within one covered begun ahead is = record {
  begun = omega (arith, lies.from);
  kept = IsBoundedOver-ends s.first (k - s.from) first_bounded row_bounded;
  row = rw (le-ltb k start covered) at_k;
  bounded = row_bounded;
} where
  next : high ≡ suc low
  next = omega arith

  lies : LiesAt (edge start ss low) (edge start ss (suc low)) s
  lies = lies_at start end ss low s laid.adjoin (omega arith) is

  at_k : slice_get (all_rows ss) (k - start) ≡ Some (row_after s.first (k - s.from))
  at_k = row_in start end ss low s k laid.adjoin is begun (rw next at ahead)

  at_first : slice_get (all_rows ss) (s.from - start) ≡ Some (row_after s.first (s.from - s.from))
  at_first = row_in start end ss low s s.from laid.adjoin is (omega (arith, lies.from)) (omega (arith, lies.to, lies.some))

  row_bounded : IsBoundedRow (row_after s.first (k - s.from))
  row_bounded = IsBoundedRow-slice_get (all_rows ss) (k - start) _ laid.kept.bounded at_k

  none : s.from - s.from ≡ 0
  none = omega arith

  first_bounded : IsBoundedRow s.first
  first_bounded = rw (none, row_after-none s.first) at (IsBoundedRow-slice_get (all_rows ss) (s.from - start) _ laid.kept.bounded at_first)
