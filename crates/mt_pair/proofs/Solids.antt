-- Spans of loss without a gap: of two segments of which neither is high, and of one part after another.
use Rattle.std.proofs.Common.{◌&&◌, ◌↔◌, Bool, ℕ, ◌-◌, ◌<◌, ◌≤◌, Option, Some, None, arith, ⊎_elim}
use Rattle.std.proofs.lemmas.Bool.{cases_lt}
use Rattle.mt_base.specs.Bounds.{AreWithinBounds, IsBoundedRow}
use Rattle.mt_base.specs.declared.row.Row.{Row}
use Rattle.mt_base.specs.declared.rules.Rules.{Rules}
use Rattle.mt_base.specs.Conflict.{IsLossSecond}
use Rattle.mt_base.specs.Loss.{LosesIn}
use Rattle.mt_base.specs.Span.{IsSolid, IsSpan, joined}
use Rattle.mt_base.specs.Trajectory.{Trajectory}
use Rattle.mt_track.specs.declared.segment.Segment.{Segment}
use Rattle.mt_track.specs.Laid.{CoversSecond}
use Rattle.mt_track.specs.Rows.{row_after}
use Rattle.mt_pair.specs.Gap.{excess_of, gap_of}
use Rattle.mt_pair.specs.High.{level_of}
use Rattle.mt_pair.specs.Private.Below.{AreBelowAt}
use Rattle.mt_pair.specs.Private.High.{AreLow}
use Rattle.mt_pair.specs.Private.Together.{AreAdjacent, AreTogether}
use Rattle.mt_pair.proofs.Between.{below_is_convex, seconds_between}
use Rattle.mt_pair.proofs.Instants.{loses_low}
use Rattle.mt_pair.proofs.Spans.{loses_after, loss_second}

-- two rows that keep their gains, and neither of which is high
loses_between : (rules : Rules) (pa pb : Bool) (a b : Row) (seconds : ℕ) → AreWithinBounds rules → IsBoundedRow a → IsBoundedRow b → 0 < seconds
    → AreLow (level_of (pa && pb)) a b seconds → (first k last : ℕ) → first ≤ k → k ≤ last → last < seconds
    → LosesIn rules pa pb (row_after a first) (row_after b first) → LosesIn rules pa pb (row_after a last) (row_after b last) → LosesIn rules pa pb (row_after a k) (row_after b k)
loses_between rules pa pb a b seconds rules_kept a_kept b_kept some low first k last begun ends ahead one other =
    let over = excess_of rules.sv a b in
    let under = excess_of rules.sv b a in
    (loses_low rules pa pb a b seconds some low k (omega arith)).0
    (seconds_between (AreBelowAt (gap_of rules a b) over under) (below_is_convex rules a b over under rules_kept a_kept b_kept) first k last begun ends
    ((loses_low rules pa pb a b seconds some low first (omega arith)).1 one)
    ((loses_low rules pa pb a b seconds some low last ahead).1 other))

-- seconds that two segments cover
pub AreTogether-covers : (rules : Rules) (a b : Trajectory) (from to : ℕ) (s t : Segment) → AreWithinBounds rules → from < to
    → ((k : ℕ) → from ≤ k → k < to → CoversSecond a k s) → ((k : ℕ) → from ≤ k → k < to → CoversSecond b k t)
    → AreLow (level_of (a.rvsm && b.rvsm)) (row_after s.first (from - s.from)) (row_after t.first (from - t.from)) (to - from)
    → AreTogether (IsLossSecond rules a b) from to
AreTogether-covers rules a b from to s t rules_kept some left right low = λ first k last low_first begun ends ahead one other.
    let at_left = left from (omega arith) some in
    let at_right = right from (omega arith) some in
    let x = row_after s.first (from - s.from) in
    let y = row_after t.first (from - t.from) in
    let at : (m : ℕ) → from ≤ m → m < to → IsLossSecond rules a b m ↔ LosesIn rules a.rvsm b.rvsm (row_after x (m - from)) (row_after y (m - from)) =
    λ m later sooner.
    let same = loss_second rules a b m _ _ (left m later sooner).row (right m later sooner).row in
    let moved = loses_after rules a.rvsm b.rvsm s.first t.first s.from t.from from m at_left.begun at_right.begun later in
    ((λ loss. moved.1 (same.0 loss)), (λ loss. same.1 (moved.0 loss))) in
    (at k (omega arith) (omega arith)).1
    (loses_between rules a.rvsm b.rvsm x y (to - from) rules_kept at_left.bounded at_right.bounded (omega arith) low
    (first - from) (k - from) (last - from) (omega arith) (omega arith) (omega arith)
    ((at first low_first (omega arith)).0 one) ((at last (omega arith) ahead).0 other))

-- a span of seconds that lie together is solid
pub IsSolid-together : (P : ℕ → Type 0) (low high : ℕ) (span : Option (ℕ × ℕ)) → AreTogether P low high → IsSpan P low high span → IsSolid P span
IsSolid-together P low high None together is = tt
IsSolid-together P low high (Some span) together is = λ k begun ends. together span.0 k span.1 is.inside.0 begun ends is.inside.2 is.first_is is.last_is

-- one part after another
pub IsSolid-joined : (P : ℕ → Type 0) (span more : Option (ℕ × ℕ)) → AreAdjacent span more → IsSolid P span → IsSolid P more → IsSolid P (joined span more)
IsSolid-joined P None more near is next = next
IsSolid-joined P (Some span) None near is next = is
IsSolid-joined P (Some span) (Some later) near is next = λ k begun ends. ⊎_elim
    (λ less. is k begun (omega (arith, near, less)))
    (λ enough. next k enough ends)
    (cases_lt k later.0)
