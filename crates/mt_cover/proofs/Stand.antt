-- The segment at which a slice stands, and what its rows add.
use Rattle.std.proofs.Common.{◌≡◌, ℕ, zero, suc, min, ◌+◌, ◌-◌, ◌<◌, ◌≤◌, ⊎_elim, List, [], ◌∷◌, ◌++◌, Some, length, get_or, sym, subst, ap, ◌∙◌, arith}
use Rattle.std.proofs.lemmas.Bool.{cases_lt}
use Rattle.std.proofs.lemmas.List.{get_or_default}
use Rattle.std.specs.Prelude.{slice_get}
use Rattle.mt_base.specs.declared.row.Row.{Row}
use Rattle.mt_base.specs.Bounds.{IsBoundedOver}
use Rattle.mt_base.specs.Trajectory.{straight_rows}
use Rattle.mt_track.specs.declared.segment.Segment.{Segment}
use Rattle.mt_track.specs.Laid.{IsLaid, all_rows, edge}
use Rattle.mt_track.specs.Rows.{row_after}
use Rattle.mt_track.proofs.Joined.{IsBoundedOver-last, IsBoundedOver-segment}
use Rattle.mt_track.proofs.Segments.{edge-length, edge_from, lies_at, row_in}
use Rattle.mt_track.proofs.Straight.{IsBoundedRow-row_after, row_after-add}
use Rattle.mt_cover.specs.declared.bounding_box.BoundingBox.{BoundingBox}
use Rattle.mt_cover.specs.Box.{box_over}
use Rattle.mt_cover.specs.Private.Parts.{box_of_both}
use Rattle.mt_cover.specs.Private.Walk.{IsBoxOver, StandsAtSecond, part}
use Rattle.mt_cover.proofs.Ends.{box_over-append}
use Rattle.mt_cover.proofs.Parts.{part-cons, part-more, part-straight}

-- bounds over some seconds are bounds over fewer
pub IsBoundedOver-front : (a : Row) (n k : ℕ) → k < n → IsBoundedOver a n → IsBoundedOver a k
IsBoundedOver-front a n k below kept =
    let at = IsBoundedRow-row_after a n k below kept in
    record {
      x = record { value = kept.x.value; growth = kept.x.growth; end = at.x.value };
      y = record { value = kept.y.value; growth = kept.y.growth; end = at.y.value };
      z = record { value = kept.z.value; growth = kept.z.growth; end = at.z.value };
      r = record { value = kept.r.value; growth = kept.r.growth; end = at.r.value };
      w = record { value = kept.w.value; growth = kept.w.growth; end = at.w.value };
    }

-- and over some that begin later
pub IsBoundedOver-part : (a : Row) (n k m : ℕ) → 0 < m → k + m ≤ n → IsBoundedOver a n → IsBoundedOver (row_after a k) m
IsBoundedOver-part a n k m some within kept =
    IsBoundedOver-last (row_after a k) (m - 1) m (omega (arith, some)) (IsBoundedRow-row_after a n k (omega (arith, some, within)) kept)
    (rw (row_after-add a k (m - 1)) (IsBoundedRow-row_after a n (k + (m - 1)) (omega (arith, some, within)) kept))

-- the segment at which second k stands
pub record Here (end : ℕ) (segments : List Segment) (index k : ℕ) (s : Segment) : Type 0 where
  pub begun : s.from ≤ k
  pub ahead : k < s.to
  pub within : s.to ≤ end
  pub bounded : IsBoundedOver s.first (s.to - s.from)

-- before the end it is one of them
pub stands_within : (start end : ℕ) (ss : List Segment) (index k : ℕ) → IsLaid start end ss → StandsAtSecond start ss index k → k < end → index < length ss
stands_within start end ss index k laid stands early = ⊎_elim (λ h. h)
    (λ past. let last : index ≡ length ss = omega (arith, stands.within) in
    let at_end = edge-length start end ss laid.adjoin in
    let begun : edge start ss (length ss) ≤ k = rw last at stands.begun in
    absurd (omega (arith, begun, at_end)))
    (cases_lt index (length ss))

-- no segment ends after the end
edge_to : (from to : ℕ) (ss : List Segment) (i : ℕ) → Rattle.mt_track.specs.Laid.Adjoin from ss to → i ≤ length ss → edge from ss i ≤ to
edge_to from to [] zero lie few = omega (arith, lie)
edge_to from to [] (suc i) lie few = absurd (omega arith)
edge_to from to (s ∷ ss) zero lie few = let later = edge_from s.to to ss 0 lie.2 in let on = edge_to s.to to ss 0 lie.2 (omega arith) in omega (arith, lie.0, lie.1, on)
edge_to from to (s ∷ ss) (suc i) lie few = edge_to s.to to ss i lie.2 (omega arith)

pub here : (start end : ℕ) (ss : List Segment) (index k : ℕ) (s : Segment) → IsLaid start end ss → StandsAtSecond start ss index k → k < end → s ≡ get_or ss index s
    → Here end ss index k s
here start end ss index k s laid stands early is =
    let below = stands_within start end ss index k laid stands early in
    let lies = lies_at start end ss index s laid.adjoin below is in
    let ahead = stands.ahead below in
    let last = edge_to start end ss (suc index) laid.adjoin (omega (arith, below)) in
    record {
      begun = omega (arith, lies.from, stands.begun);
      ahead = omega (arith, lies.to, ahead);
      within = omega (arith, lies.to, last);
      bounded = IsBoundedOver-segment start end ss index s laid below is;
    }

-- the row there
pub row_here : (start end : ℕ) (ss : List Segment) (index k : ℕ) (s : Segment) → IsLaid start end ss → StandsAtSecond start ss index k → k < end → s ≡ get_or ss index s
    → slice_get (all_rows ss) (k - start) ≡ Some (row_after s.first (k - s.from))
row_here start end ss index k s laid stands early is =
    row_in start end ss index s k laid.adjoin is stands.begun (stands.ahead (stands_within start end ss index k laid stands early))

-- the rows from one second to another in a segment, and their box
pub part_box : (start end : ℕ) (ss : List Segment) (index from until : ℕ) (s : Segment) (bounds : BoundingBox) → IsLaid start end ss → StandsAtSecond start ss index from
    → from < end → s ≡ get_or ss index s → start ≤ from → from ≤ until → until ≤ s.to
    → bounds ≡ box_over (straight_rows (row_after s.first (from - s.from)) (until - from)) (row_after s.first (from - s.from))
    → IsBoxOver (all_rows ss) (from - start) (until - from) bounds
part_box start end ss index from until s bounds laid stands early is begun on within bounds_is row at =
    let h = here start end ss index from s laid stands early is in
    let lies = lies_at start end ss index s laid.adjoin (stands_within start end ss index from laid stands early) is in
    let each : (k : ℕ) → k < until - from → slice_get (all_rows ss) ((from - start) + k) ≡ Some (row_after (row_after s.first (from - s.from)) k) =
    λ k below. let place : (from + k) - start ≡ (from - start) + k = omega arith in
    let sum : (from + k) - s.from ≡ (from - s.from) + k = omega (arith, h.begun) in
    let one = row_in start end ss index s (from + k) laid.adjoin is (omega (arith, stands.begun)) (omega (arith, lies.to, within, below)) in
    rw (row_after-add s.first (from - s.from) k) (rw (place, sum) at one) in
    let rows = part-straight (all_rows ss) (from - start) (until - from) (row_after s.first (from - s.from)) each in
    let one = row_here start end ss index from s laid stands early is in
    let same : row_after s.first (from - s.from) ≡ row = cc in
    bounds_is ∙ ap (λ (list : List Row). box_over list (row_after s.first (from - s.from))) (sym rows)
    ∙ ap (box_over (part (all_rows ss) (from - start) (until - from))) same

pub at_element : (start end : ℕ) (ss : List Segment) (index k : ℕ) (d : Segment) → IsLaid start end ss → StandsAtSecond start ss index k → k < end
    → get_or ss index d ≡ get_or ss index (get_or ss index d)
at_element start end ss index k d laid stands early = get_or_default ss index d (get_or ss index d) (stands_within start end ss index k laid stands early)

-- the boxes of two parts, one after the other, and that of both
pub parts_joined : (start end : ℕ) (ss : List Segment) (index from at until : ℕ) (a b c : BoundingBox) → IsLaid start end ss → StandsAtSecond start ss index at → at < end
    → start ≤ from → from ≤ at → at < until → IsBoxOver (all_rows ss) (from - start) (at - from) a → IsBoxOver (all_rows ss) (at - start) (until - at) b → c ≡ box_of_both a b
    → IsBoxOver (all_rows ss) (from - start) (until - from) c
parts_joined start end ss index from at until a b c laid stands early begun on more a_is b_is c_is row there =
    let s = get_or ss index (record { from = 0; to = 0; first = row }) in
    let next = row_after s.first (at - s.from) in
    let next_at = row_here start end ss index at s laid stands early (at_element start end ss index at (record { from = 0; to = 0; first = row }) laid stands early) in
    let count : until - from ≡ (at - from) + (until - at) = omega arith in
    let seam : (from - start) + (at - from) ≡ at - start = omega arith in
    let some : until - at ≡ suc (until - at - 1) = omega arith in
    let front = part (all_rows ss) (from - start) (at - from) in
    let rest = part (all_rows ss) ((at - start) + 1) (until - at - 1) in
    let cons : part (all_rows ss) (at - start) (until - at) ≡ next ∷ rest =
    subst (λ (n : ℕ). part (all_rows ss) (at - start) n ≡ next ∷ rest) (sym some) (part-cons (all_rows ss) (at - start) (until - at - 1) next next_at) in
    let back : part (all_rows ss) ((from - start) + (at - from)) (until - at) ≡ next ∷ rest = rw seam cons in
    let both : part (all_rows ss) (from - start) (until - from) ≡ front ++ part (all_rows ss) ((from - start) + (at - from)) (until - at) =
    rw count (part-more (all_rows ss) (from - start) (at - from) (until - at)) in
    let all : part (all_rows ss) (from - start) (until - from) ≡ front ++ next ∷ rest = both ∙ ap (λ (rows : List Row). front ++ rows) back in
    c_is ∙ ap (λ (z : BoundingBox). box_of_both z b) (a_is row there) ∙ ap (box_of_both (box_over front row)) (b_is next next_at)
    ∙ ap (λ (rows : List Row). box_of_both (box_over front row) (box_over rows next)) cons
    ∙ sym (box_over-append front rest row next)
    ∙ ap (λ (rows : List Row). box_over rows row) (sym all)

-- the next second to be gathered
pub stands_on : (start end : ℕ) (ss : List Segment) (index at until : ℕ) (s : Segment) → IsLaid start end ss → StandsAtSecond start ss index at → at < end → s ≡ get_or ss index s
    → at ≤ until → until < s.to → StandsAtSecond start ss index until
stands_on start end ss index at until s laid stands early is on within =
    let below = stands_within start end ss index at laid stands early in
    let lies = lies_at start end ss index s laid.adjoin below is in
    record { within = stands.within; begun = omega (arith, stands.begun, on); ahead = λ _. omega (arith, lies.to, within) }

pub stands_next : (start end : ℕ) (ss : List Segment) (index at : ℕ) (s t : Segment) → IsLaid start end ss → StandsAtSecond start ss index at → at < end → s ≡ get_or ss index s
    → StandsAtSecond start ss (index + 1) s.to
stands_next start end ss index at s t laid stands early is =
    let below = stands_within start end ss index at laid stands early in
    let lies = lies_at start end ss index s laid.adjoin below is in
    let e : index + 1 ≡ suc index = omega arith in
    rw e (record {
      within = omega (arith, below);
      begun = omega (arith, lies.to);
      ahead = λ next. let more = lies_at start end ss (suc index) (get_or ss (suc index) s) laid.adjoin next
          (get_or_default ss (suc index) s (get_or ss (suc index) s) next) in omega (arith, more.some, more.from, more.to, lies.to);
    })

-- at the end of the segment the next one holds; before it, the same one
pub stands_past : (start end : ℕ) (ss : List Segment) (index at until to : ℕ) (s : Segment) → IsLaid start end ss → StandsAtSecond start ss index at → at < end → s ≡ get_or ss index s
    → until ≡ min s.to to → s.to ≤ to → StandsAtSecond start ss (index + 1) until
stands_past start end ss index at until to s laid stands early is until_is past =
    let e : until ≡ s.to = omega (arith, until_is) in
    rw e (stands_next start end ss index at s s laid stands early is)

pub stands_still : (start end : ℕ) (ss : List Segment) (index at until to : ℕ) (s : Segment) → IsLaid start end ss → StandsAtSecond start ss index at → at < end → s ≡ get_or ss index s
    → at < to → until ≡ min s.to to → to < s.to → StandsAtSecond start ss index until
stands_still start end ss index at until to s laid stands early is more until_is past =
    stands_on start end ss index at until s laid stands early is (omega (arith, until_is)) (omega (arith, until_is))

-- where a step of the loop ends
pub record Goes (at until to : ℕ) : Type 0 where
  pub on : at < until
  pub within : until ≤ to

pub goes : (start end : ℕ) (ss : List Segment) (index at until to : ℕ) (s : Segment) → IsLaid start end ss → StandsAtSecond start ss index at → at < end
    → s ≡ get_or ss index s → at < to → until ≡ min s.to to → Goes at until to
goes start end ss index at until to s laid stands early is more until_is =
    let h = here start end ss index at s laid stands early is in
    record { on = omega (arith, h.ahead, until_is); within = omega (arith, until_is) }
