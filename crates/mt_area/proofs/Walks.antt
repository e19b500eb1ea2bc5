-- What a segment of a strand says of the seconds that it holds.
use Rattle.std.proofs.Common.{◌≡◌, ℕ, zero, suc, ◌+◌, ◌-◌, ◌<◌, ◌≤◌, ◌↔◌, List, [], ◌∷◌, length, Option, Some, subst, ⊎_elim, arith}
use Rattle.std.proofs.lemmas.Bool.{cases_lt}
use Rattle.std.specs.Prelude.{slice_index_or}
use Rattle.mt_base.specs.declared.area.Area.{Area}
use Rattle.mt_base.specs.declared.row.Row.{Row}
use Rattle.mt_base.specs.Area.{IsInside, IsInsideSecond, IsPierce}
use Rattle.mt_base.specs.Span.{IsSpan, joined}
use Rattle.mt_base.specs.Bounds.{IsBoundedOver}
use Rattle.mt_base.specs.Trajectory.{Trajectory, row_at}
use Rattle.mt_track.specs.declared.segment.Segment.{Segment}
use Rattle.mt_track.specs.Laid.{Adjoin, AreSegmentsOf, CoversSecond, IsLaid, IsStrand, edge}
use Rattle.mt_track.specs.Rows.{row_after}
use Rattle.mt_track.proofs.Joined.{IsBoundedOver-segment}
use Rattle.mt_track.proofs.Places.{covered, edge_to}
use Rattle.mt_track.proofs.Segments.{edge_from, lies_at}
use Rattle.mt_track.proofs.Strands.{found}
use Rattle.mt_base.proofs.Spans.{IsSpan-joined, IsSpan-same}

-- where the last segment ends
pub edge_end : (from to : ℕ) (ss : List Segment) (i : ℕ) → Adjoin from ss to → length ss ≤ i → i ≤ length ss → edge from ss i ≡ to
edge_end from to [] zero lie done within = lie
edge_end from to [] (suc i) lie done within = absurd (omega arith)
edge_end from to (s ∷ ss) zero lie done within = absurd (omega arith)
edge_end from to (s ∷ ss) (suc i) lie done within = edge_end s.to to ss i lie.2 (omega arith) (omega arith)

-- the segment at a place, from its edge to the next
pub record Reads (t : Trajectory) (ss : List Segment) (i : ℕ) (s : Segment) : Type 0 where
  pub from : s.from ≡ edge t.start ss i
  pub to : s.to ≡ edge t.start ss (i + 1)
  pub last : s.to ≤ t.start + length t.rows
  pub first : t.start ≤ s.from
  pub holds : (k : ℕ) → s.from ≤ k → k < s.to → CoversSecond t k s
  pub kept : (k : ℕ) → s.from ≤ k → k ≤ s.to → IsBoundedOver s.first (k - s.from)

pub reads : (t : Trajectory) (ss : List Segment) (i : ℕ) (s : Segment) → IsStrand t → AreSegmentsOf t ss → i < length ss → s ≡ slice_index_or ss i s → Reads t ss i s
reads t ss i s kept are below is =
    let all : IsLaid t.start (t.start + length t.rows) ss = record { adjoin = are.adjoin; apart = are.apart; kept = rw are.rows kept } in
    let lies = lies_at t.start (t.start + length t.rows) ss i s are.adjoin below is in
    let first = edge_from t.start (t.start + length t.rows) ss i are.adjoin in
    let last = edge_to t.start (t.start + length t.rows) ss (suc i) are.adjoin (omega arith) in
    let one : i + 1 ≡ suc i = omega arith in
    let holds : (k : ℕ) → s.from ≤ k → k < s.to → CoversSecond t k s = λ k later sooner.
    subst (λ (rows : List Row). CoversSecond (record t { rows = rows }) k s) are.rows
    (found t.start (t.start + length t.rows) t.rvsm ss i (suc i) k s all (omega arith) (omega arith) (omega arith)
    (omega (arith, first, lies.from, later)) (omega (arith, lies.from, later)) (omega (arith, lies.to, sooner)) is) in
    record {
      from = lies.from;
      to = rw one lies.to;
      last = omega (arith, lies.to, last);
      first = omega (arith, lies.from, first);
      holds = holds;
      kept = λ k begun within. ⊎_elim
          (λ sooner. (holds k begun sooner).kept)
          (λ past.
          let whole = IsBoundedOver-segment t.start (t.start + length t.rows) ss i s all below is in
          subst (λ (e : ℕ). IsBoundedOver s.first (e - s.from)) (omega (arith, within, past)) whole)
          (cases_lt k s.to);
    }

-- a second in the area's hours is inside exactly where its row is
inside_by : (t : Trajectory) (area : Area) (k : ℕ) (row : Row) → row_at t k ≡ Some row → area.from ≤ k → k < area.to → IsInside area row ↔ IsInsideSecond t area k
inside_by t area k row at opened closed = (
  (λ inside. record { row = row; row_is = at; hours = (opened, closed); inside = inside }),
  (λ second. let same : second.row ≡ row = cc (second.row_is, at) in subst (IsInside area) same second.inside),
)

-- one segment more
pub pierce_joined : (t : Trajectory) (area : Area) (s : Segment) (from reached until : ℕ) (span more : Option (ℕ × ℕ)) → from ≤ reached → reached ≤ until
    → area.from ≤ from → until ≤ area.to → s.from ≤ reached → until ≤ s.to → ((k : ℕ) → s.from ≤ k → k < s.to → CoversSecond t k s)
    → IsPierce t area from reached span → IsSpan (λ k. IsInside area (row_after s.first (k - s.from))) reached until more → IsPierce t area from until (joined span more)
pierce_joined t area s from reached until span more ordered longer opened closed begun ahead holds is next =
    IsSpan-joined (IsInsideSecond t area) from reached until span more ordered longer is
    (IsSpan-same (λ k. IsInside area (row_after s.first (k - s.from))) (IsInsideSecond t area) reached until more
    (λ k after before. inside_by t area k (row_after s.first (k - s.from)) (holds k (omega arith) (omega arith)).row (omega arith) (omega arith)) next)

-- a second inside is covered by the trajectory and held by the area's hours
pub record IsHeld (t : Trajectory) (area : Area) (k : ℕ) : Type 0 where
  pub begun : t.start ≤ k
  pub within : k < t.start + length t.rows
  pub opened : area.from ≤ k
  pub closed : k < area.to

pub held : (t : Trajectory) (area : Area) (k : ℕ) → IsInsideSecond t area k → IsHeld t area k
held t area k second =
    let at = covered t k second.row second.row_is in
    record { begun = at.0; within = at.1; opened = second.hours.0; closed = second.hours.1 }
