-- Segments that lie end to end: where each begins, and the row of each second.
use Rattle.std.proofs.Common.{◌≡◌, ℕ, zero, suc, ◌+◌, ◌-◌, ◌<◌, ◌≤◌, List, [], ◌∷◌, ◌++◌, length, get_or, Some, sym, ap, ◌∙◌, arith, refl, length-append}
use Rattle.std.specs.Prelude.{slice_get}
use Rattle.mt_base.proofs.HistoryLemmas.{slice_get-append_left}
use Rattle.mt_track.specs.declared.segment.Segment.{Segment}
use Rattle.mt_track.specs.Laid.{Adjoin, all_rows, edge, rows_of}
use Rattle.mt_track.specs.Rows.{row_after}
use Rattle.mt_track.proofs.Straight.{length-straight_rows, slice_get-straight_rows}

-- a place of the list after another
pub slice_get-append_right : {X : Type 0} (xs ys : List X) (i j : ℕ) → i ≡ length xs + j → slice_get (xs ++ ys) i ≡ slice_get ys j
slice_get-append_right [] ys i j e = ap (slice_get ys) (e ∙ omega arith)
slice_get-append_right (x ∷ xs) ys zero j e = absurd (omega arith)
slice_get-append_right (x ∷ xs) ys (suc i) j e = slice_get-append_right xs ys i j (omega arith)

-- after the last segment is the end
pub edge-length : (from to : ℕ) (ss : List Segment) → Adjoin from ss to → edge from ss (length ss) ≡ to
edge-length from to [] lie = lie
edge-length from to (s ∷ ss) lie = edge-length s.to to ss lie.2

-- where there is a second there is a segment
pub some_segment : (from to : ℕ) (ss : List Segment) → Adjoin from ss to → from < to → 0 < length ss
some_segment from to [] lie longer = absurd (omega (arith, lie))
some_segment from to (s ∷ ss) lie longer = omega arith

-- no segment begins before the first
pub edge_from : (from to : ℕ) (ss : List Segment) (i : ℕ) → Adjoin from ss to → from ≤ edge from ss i
edge_from from to ss zero lie = omega arith
edge_from from to [] (suc i) lie = omega arith
edge_from from to (s ∷ ss) (suc i) lie = let later = edge_from s.to to ss i lie.2 in omega (arith, later)

-- segment i lies from its edge to the next
pub record LiesAt (begin end : ℕ) (s : Segment) : Type 0 where
  pub from : s.from ≡ begin
  pub to : s.to ≡ end
  pub some : s.from < s.to

pub lies_at : (from to : ℕ) (ss : List Segment) (i : ℕ) (s : Segment) → Adjoin from ss to → i < length ss → s ≡ get_or ss i s
    → LiesAt (edge from ss i) (edge from ss (suc i)) s
lies_at from to [] i s lie below is = absurd (omega arith)
lies_at from to (t ∷ ts) zero s lie below is = rw is (record { from = lie.0; to = refl; some = lie.1 })
lies_at from to (t ∷ ts) (suc i) s lie below is = lies_at t.to to ts i s lie.2 (omega arith) is

-- how many rows
length-rows_of : (s : Segment) → length (rows_of s) ≡ s.to - s.from
length-rows_of s = length-straight_rows s.first (s.to - s.from)

pub length-all_rows : (from to : ℕ) (ss : List Segment) → Adjoin from ss to → from + length (all_rows ss) ≡ to
length-all_rows from to [] lie = omega (arith, lie)
length-all_rows from to (s ∷ ss) lie =
    omega (arith, lie.0, lie.1, length-append (rows_of s) (all_rows ss), length-rows_of s, length-all_rows s.to to ss lie.2)

-- the row of each second of segment i
pub row_in : (from to : ℕ) (ss : List Segment) (i : ℕ) (s : Segment) (k : ℕ) → Adjoin from ss to → s ≡ get_or ss i s
    → edge from ss i ≤ k → k < edge from ss (suc i) → slice_get (all_rows ss) (k - from) ≡ Some (row_after s.first (k - s.from))
row_in from to [] zero s k lie is begun ahead = absurd (omega arith)
row_in from to [] (suc i) s k lie is begun ahead = absurd (omega arith)
row_in from to (t ∷ ts) zero s k lie is begun ahead =
    let within : k - from < length (rows_of t) = omega (arith, lie.0, length-rows_of t) in
    let inside : k - from < t.to - t.from = omega (arith, lie.0) in
    let e : k - from ≡ k - t.from = ap (λ (n : ℕ). k - n) (sym lie.0) in
    rw (is, slice_get-append_left (rows_of t) (all_rows ts) (k - from) within, slice_get-straight_rows t.first (t.to - t.from) (k - from) inside)
    (ap (λ (n : ℕ). Some (row_after t.first n)) e)
row_in from to (t ∷ ts) (suc i) s k lie is begun ahead =
    let later = edge_from t.to to ts i lie.2 in
    slice_get-append_right (rows_of t) (all_rows ts) (k - from) (k - t.to) (omega (arith, lie.0, lie.1, later, length-rows_of t))
    ∙ row_in t.to to ts i s k lie.2 is begun ahead

-- one segment more
pub Adjoin-push : (from to : ℕ) (ss : List Segment) (s : Segment) → Adjoin from ss to → s.from ≡ to → s.from < s.to → Adjoin from (ss ++ s ∷ []) s.to
Adjoin-push from to [] s lie begins some = (begins ∙ sym lie, some, refl)
Adjoin-push from to (t ∷ ts) s lie begins some = (lie.0, lie.1, Adjoin-push t.to to ts s lie.2 begins some)
