-- A walk along the segments of a strand, and what one of them says of the seconds that it covers.
use Rattle.std.proofs.Common.{◌≡◌, ℕ, zero, suc, ◌+◌, ◌-◌, ◌<◌, ◌≤◌, List, [], ◌∷◌, length, get_or, Option, subst, arith}
use Rattle.std.specs.Prelude.{slice_index_or}
use Rattle.mt_base.specs.declared.row.Row.{Row}
use Rattle.mt_base.specs.declared.rules.Rules.{Rules}
use Rattle.mt_base.specs.Conflict.{IsConflict, IsLossSecond}
use Rattle.mt_base.specs.Loss.{LosesIn}
use Rattle.mt_base.specs.Trajectory.{Trajectory}
use Rattle.mt_track.specs.declared.segment.Segment.{Segment}
use Rattle.mt_track.specs.Laid.{Adjoin, AreSegmentsOf, Covers, CoversSecond, IsLaid, IsStrand, edge}
use Rattle.mt_track.specs.Rows.{row_after}
use Rattle.mt_track.proofs.Apart.{few_segments, same_segments}
use Rattle.mt_track.proofs.Joined.{one_element}
use Rattle.mt_track.proofs.Places.{at_place, blank, edge_to}
use Rattle.mt_track.proofs.Segments.{edge_from, lies_at}
use Rattle.mt_track.proofs.Strands.{found}
use Rattle.mt_pair.specs.Private.Held.{BeginsBy, StandsAt}
use Rattle.mt_base.specs.Span.{IsSpan, joined}
use Rattle.mt_base.proofs.Spans.{IsSpan-joined, IsSpan-same}
use Rattle.mt_pair.proofs.Spans.{loss_second}

-- a place whose edge is not after a covered second is one of a segment
below_length : (from to : ℕ) (ss : List Segment) (i k : ℕ) → Adjoin from ss to → edge from ss i ≤ k → k < to → i < length ss
below_length from to [] zero k lie begun ahead = absurd (omega (arith, lie))
below_length from to [] (suc i) k lie begun ahead = absurd (omega (arith, lie))
below_length from to (s ∷ ss) zero k lie begun ahead = omega arith
below_length from to (s ∷ ss) (suc i) k lie begun ahead = let h = below_length s.to to ss i k lie.2 begun ahead in omega (arith, h)

-- what the code reads at a place whose segment begins by a covered second
pub record Reads (t : Trajectory) (ss : List Segment) (i k : ℕ) (s : Segment) : Type 0 where
  pub below : i < length ss
  pub few : i < 14400
  pub is : s ≡ get_or ss i s
  pub begun : s.from ≤ k
  pub next : s.to ≤ k → edge t.start ss (i + 1) ≤ k

pub reads : (t : Trajectory) (ss : List Segment) (i k : ℕ) (d : Segment) → IsStrand t → AreSegmentsOf t ss → edge t.start ss i ≤ k
    → k < t.start + length t.rows → Reads t ss i k (slice_index_or ss i d)
reads t ss i k d kept are begun within =
    let below = below_length t.start (t.start + length t.rows) ss i k are.adjoin begun within in
    let is = at_place ss i d below in
    let few = few_segments t.start (t.start + length t.rows) ss are.adjoin in
    let lies = lies_at t.start (t.start + length t.rows) ss i (slice_index_or ss i d) are.adjoin below is in
    let one : i + 1 ≡ suc i = omega arith in
    record {
      below = below;
      few = omega (arith, below, few, kept.short);
      is = is;
      begun = omega (arith, lies.from);
      next = λ past. rw one (omega (arith, lies.to));
    }

-- a segment that covers some seconds begins by the first of them, and so by any later second
pub HasBegun-covers : (t : Trajectory) (i from to k : ℕ) → Covers t i from to → from ≤ k → BeginsBy t i k
HasBegun-covers t i from to k covers later = λ ss are.
    let same = same_segments t covers.segments ss covers.are are in
    let lies = lies_at t.start (t.start + length t.rows) covers.segments i covers.segment covers.are.adjoin covers.place covers.is in
    subst (λ (us : List Segment). edge t.start us i ≤ k) same (omega (arith, lies.from, covers.begun))

-- what the code reads at a place whose segment covers some seconds
pub record ReadsCover (t : Trajectory) (ss : List Segment) (i from to : ℕ) (s : Segment) : Type 0 where
  pub below : i < length ss
  pub few : i < 14400
  pub short : to ≤ from + 14400
  pub holds : (k : ℕ) → from ≤ k → k < to → CoversSecond t k s

pub reads_cover_one : (t : Trajectory) (ss : List Segment) (i from to : ℕ) (s : Segment) → IsStrand t → AreSegmentsOf t ss → Covers t i from to
    → (i < length ss → s ≡ get_or ss i s) → ReadsCover t ss i from to s
reads_cover_one t ss i from to s kept are covers is_read =
    let same = same_segments t covers.segments ss covers.are are in
    let below : i < length ss = subst (λ (us : List Segment). i < length us) same covers.place in
    let is : covers.segment ≡ get_or ss i covers.segment = subst (λ (us : List Segment). covers.segment ≡ get_or us i covers.segment) same covers.is in
    let read = is_read below in
    let one : covers.segment ≡ s = one_element ss i covers.segment s below is read in
    let begun : s.from ≤ from = subst (λ (s : Segment). s.from ≤ from) one covers.begun in
    let ahead : to ≤ s.to = subst (λ (s : Segment). to ≤ s.to) one covers.ahead in
    let all : IsLaid t.start (t.start + length t.rows) ss = record { adjoin = are.adjoin; apart = are.apart; kept = rw are.rows kept } in
    let lies = lies_at t.start (t.start + length t.rows) ss i s are.adjoin below read in
    let first = edge_from t.start (t.start + length t.rows) ss i are.adjoin in
    let last = edge_to t.start (t.start + length t.rows) ss (suc i) are.adjoin (omega arith) in
    let few = few_segments t.start (t.start + length t.rows) ss are.adjoin in
    record {
      below = below;
      few = omega (arith, below, few, kept.short);
      short = omega (arith, ahead, lies.to, last, kept.short, first, lies.from, begun);
      holds = λ k later sooner.
          subst (λ (rows : List Row). CoversSecond (record t { rows = rows }) k s) are.rows
          (found t.start (t.start + length t.rows) t.rvsm ss i (suc i) k s all (omega arith) (omega arith) (omega arith)
          (omega (arith, first, lies.from, begun)) (omega (arith, lies.from, begun)) (omega (arith, lies.to, ahead)) read);
    }

pub reads_cover : (t : Trajectory) (ss : List Segment) (i from to : ℕ) → IsStrand t → AreSegmentsOf t ss → Covers t i from to
    → ReadsCover t ss i from to (slice_index_or ss i blank)
reads_cover t ss i from to kept are covers = reads_cover_one t ss i from to (slice_index_or ss i blank) kept are covers (at_place ss i blank)

-- a segment that holds a second stands at it
pub StandsAt-covers : (t : Trajectory) (s : Segment) (k : ℕ) → CoversSecond t k s → StandsAt s k
StandsAt-covers t s k covers = record { begun = covers.begun; kept = covers.kept; bounded = covers.bounded }

-- what two segments say of the seconds that both hold
pub overlap_is : (rules : Rules) (a b : Trajectory) (from to : ℕ) (s t : Segment) (span : Option (ℕ × ℕ))
    → ((k : ℕ) → from ≤ k → k < to → CoversSecond a k s) → ((k : ℕ) → from ≤ k → k < to → CoversSecond b k t)
    → IsSpan (λ k. LosesIn rules a.rvsm b.rvsm (row_after s.first (k - s.from)) (row_after t.first (k - t.from))) from to span → IsConflict rules a b from to span
overlap_is rules a b from to s t span left right is =
    IsSpan-same (λ k. LosesIn rules a.rvsm b.rvsm (row_after s.first (k - s.from)) (row_after t.first (k - t.from))) (IsLossSecond rules a b) from to span
    (λ k begun ahead.
    let same = loss_second rules a b k _ _ (left k begun ahead).row (right k begun ahead).row in
    (same.1, same.0))
    is

-- one part more
pub IsConflict-joined : (rules : Rules) (a b : Trajectory) (from middle to : ℕ) (span more : Option (ℕ × ℕ)) → from ≤ middle → middle ≤ to
    → IsConflict rules a b from middle span → IsConflict rules a b middle to more → IsConflict rules a b from to (joined span more)
IsConflict-joined rules a b from middle to span more ordered longer is next =
    IsSpan-joined (IsLossSecond rules a b) from middle to span more ordered longer is next
