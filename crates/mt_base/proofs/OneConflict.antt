-- Two trajectories have one span of loss in a range of seconds, and one conflict in the window.
use Rattle.std.proofs.Common.{◌≡◌, ℕ, sym, ◌∙◌, arith}
use Rattle.mt_base.specs.declared.conflict.Conflict.{Conflict}
use Rattle.mt_base.specs.declared.rules.Rules.{Rules}
use Rattle.mt_base.specs.Conflict.{IsSpanOfLoss}
use Rattle.mt_base.specs.Picture.{IsConflictOf, NamedTrajectory, window_end}
use Rattle.mt_base.specs.Trajectory.{Trajectory}

-- there is one span
pub one_span : (rules : Rules) (a b : Trajectory) (from to first last first' last' : ℕ) → IsSpanOfLoss rules a b from to first last
    → IsSpanOfLoss rules a b from to first' last' → (first ≡ first') × (last ≡ last')
one_span rules a b from to first last first' last' s t =
    let h1 = t.none_outside first s.inside.0 (omega (arith, s.inside.1, s.inside.2)) s.first_is in
    let h2 = s.none_outside first' t.inside.0 (omega (arith, t.inside.1, t.inside.2)) t.first_is in
    let h3 = t.none_outside last (omega (arith, s.inside.0, s.inside.1)) s.inside.2 s.last_is in
    let h4 = s.none_outside last' (omega (arith, t.inside.0, t.inside.1)) t.inside.2 t.last_is in
    (omega arith, omega arith)

-- there is one conflict of two trajectories in the window
pub one_conflict : (rules : Rules) (now : ℕ) (left right : NamedTrajectory) (c d : Conflict) → IsConflictOf rules now left right c → IsConflictOf rules now left right d → c ≡ d
one_conflict rules now left right c d is other =
    let e = one_span rules left.path right.path now (window_end now) c.first c.last d.first d.last is.span other.span in
    λ i. record {
      first = e.0 i;
      a = (is.calls.0 ∙ sym other.calls.0) i;
      b = (is.calls.1 ∙ sym other.calls.1) i;
      ka = (is.kinds.0 ∙ sym other.kinds.0) i;
      kb = (is.kinds.1 ∙ sym other.kinds.1) i;
      last = e.1 i;
    }
