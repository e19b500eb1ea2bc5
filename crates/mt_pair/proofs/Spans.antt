-- The span of the loss seconds of a range.
use Rattle.std.proofs.Common.{◌≡◌, Bool, ℕ, ◌+◌, ◌-◌, ◌<◌, ◌≤◌, Option, Some, length, sym, ap, subst, ◌∙◌, ◌↔◌, arith, le_refl}
use Rattle.mt_base.specs.declared.row.Row.{Row}
use Rattle.mt_base.specs.declared.rules.Rules.{Rules}
use Rattle.mt_base.specs.Conflict.{IsLossSecond}
use Rattle.mt_base.specs.Loss.{LosesIn}
use Rattle.mt_base.specs.Trajectory.{Trajectory, row_at}
use Rattle.mt_track.specs.Rows.{row_after}
use Rattle.mt_track.proofs.Places.{covered}
use Rattle.mt_track.proofs.Straight.{row_after-add}
use Rattle.mt_pair.specs.declared.approach.Approach.{Approach}
use Rattle.mt_frac.specs.Instants.{HoldsIn}
use Rattle.mt_pair.specs.Private.Cases.{IsLoss}
use Rattle.mt_base.specs.Span.{IsLeast, IsSpan}
use Rattle.mt_base.proofs.Spans.{IsSpan-later, IsSpan-same, shifted}

-- a second where both rows are known
pub loss_second : (rules : Rules) (a b : Trajectory) (k : ℕ) (x y : Row) → row_at a k ≡ Some x → row_at b k ≡ Some y → IsLossSecond rules a b k ↔ LosesIn rules a.rvsm b.rvsm x y
loss_second rules a b k x y at_a at_b = (
  (λ loss.
      let left : loss.left ≡ x = (let e : Some loss.left ≡ Some x = sym loss.left_is ∙ at_a in cc) in
      let right : loss.right ≡ y = (let e : Some loss.right ≡ Some y = sym loss.right_is ∙ at_b in cc) in
      subst (λ (z : Row). LosesIn rules a.rvsm b.rvsm x z) right (subst (λ (z : Row). LosesIn rules a.rvsm b.rvsm z loss.right) left loss.loss)),
  (λ loss. record { left = x; right = y; left_is = at_a; right_is = at_b; loss = loss }),
)

-- the rows of a second, counted from a later row of each
pub loses_after : (rules : Rules) (pa pb : Bool) (a b : Row) (s t from k : ℕ) → s ≤ from → t ≤ from → from ≤ k
    → LosesIn rules pa pb (row_after (row_after a (from - s)) (k - from)) (row_after (row_after b (from - t)) (k - from)) ↔ LosesIn rules pa pb (row_after a (k - s)) (row_after b (k - t))
loses_after rules pa pb a b s t from k s_begun t_begun begun =
    let left : row_after (row_after a (from - s)) (k - from) ≡ row_after a (k - s) = row_after-add a (from - s) (k - from) ∙ ap (row_after a) (omega arith) in
    let right : row_after (row_after b (from - t)) (k - from) ≡ row_after b (k - t) = row_after-add b (from - t) (k - from) ∙ ap (row_after b) (omega arith) in
    rw (left, right) ((λ h. h), (λ h. h))

-- a loss second is covered by both
pub record AreCovering (a b : Trajectory) (k : ℕ) : Type 0 where
  pub a_begun : a.start ≤ k
  pub a_within : k < a.start + length a.rows
  pub b_begun : b.start ≤ k
  pub b_within : k < b.start + length b.rows

pub both_cover : (rules : Rules) (a b : Trajectory) (k : ℕ) → IsLossSecond rules a b k → AreCovering a b k
both_cover rules a b k loss =
    let left = covered a k _ loss.left_is in
    let right = covered b k _ loss.right_is in
    record { a_begun = left.0; a_within = left.1; b_begun = right.0; b_within = right.1 }

-- the span of the seconds with a loss of an approach, told in the seconds from which its time is counted
pub IsSpan-after : (x : Approach) (from to : ℕ) (span : Option (ℕ × ℕ)) → from < to → IsSpan (HoldsIn (IsLoss x)) 0 (to - from) span
    → IsSpan (λ k. HoldsIn (IsLoss x) (k - from)) from to (shifted from span)
IsSpan-after x from to span some is =
    IsSpan-later (HoldsIn (IsLoss x)) (λ k. HoldsIn (IsLoss x) (k - from)) from (to - from) to span (omega arith) (λ k begun. ((λ h. h), (λ h. h))) is

-- and of two rows that keep their gains, where the approach has the cases of these
pub IsSpan-loss : (rules : Rules) (pa pb : Bool) (a b : Row) (from to : ℕ) (x : Approach) (span : Option (ℕ × ℕ)) → from < to
    → ((k : ℕ) → k < to - from → HoldsIn (IsLoss x) k ↔ LosesIn rules pa pb (row_after a k) (row_after b k))
    → IsSpan (λ k. HoldsIn (IsLoss x) (k - from)) from to span
    → IsSpan (λ k. LosesIn rules pa pb (row_after a (k - from)) (row_after b (k - from))) from to span
IsSpan-loss rules pa pb a b from to x span some same is =
    IsSpan-same (λ k. HoldsIn (IsLoss x) (k - from)) (λ k. LosesIn rules pa pb (row_after a (k - from)) (row_after b (k - from)))
    from to span (λ k begun ahead. same (k - from) (omega arith)) is

-- at the first second of all it is the least
pub least_first : (P : ℕ → Type 0) (high : ℕ) → 0 < high → P 0 → IsLeast P 0 high 0
least_first P high some is = record { begun = le_refl 0; ahead = some; is = is; none_before = λ k begun less at. absurd (omega arith) }
