-- The conflict of two trajectories over all seconds, found in those outside of which they don't lose separation.
use Rattle.std.proofs.Common.{◌≡◌, ℕ, Bool, true, ◌+◌, Option, Some, None, sym, ◌∙◌, arith}
use Rattle.mt_base.specs.declared.rules.Rules.{Rules}
use Rattle.mt_base.specs.Conflict.{IsConflict, IsLossSecond, IsSpanOfLoss}
use Rattle.mt_base.specs.Trajectory.{Trajectory, horizon}
use Rattle.mt_edges.specs.declared.edge.Edge.{Edge}
use Rattle.mt_base.specs.Span.{IsSolid}
use Rattle.mt_kept.specs.Finds.{LoseWithin}
use Rattle.mt_kept.specs.Losing.{IsSolidAsSaid}

pub whole_within : (rules : Rules) (a b : Trajectory) (first last : ℕ) (found : Option (ℕ × ℕ)) → LoseWithin rules a b first last
    → IsConflict rules a b first (last + 1) found → IsConflict rules a b 0 horizon found
whole_within rules a b first last None within none = λ k low high loss.
    let between = within.inside k loss in none k between.0 (omega (arith, between.1)) loss
whole_within rules a b first last (Some span) within some = record {
  inside = (omega arith, some.inside.1, omega (arith, some.inside.2, within.early));
  first_is = some.first_is;
  last_is = some.last_is;
  none_outside = λ k low high loss. let between = within.inside k loss in some.none_outside k between.0 (omega (arith, between.1)) loss;
}

-- a pair with the span that was found, and what it says of its being solid
pub span_as : (rules : Rules) (a b : Trajectory) (found : Option (ℕ × ℕ)) (span : ℕ × ℕ) (e : Edge) → found ≡ Some span → e.first ≡ span.0 → e.last ≡ span.1
    → IsConflict rules a b 0 horizon found → IsSpanOfLoss rules a b 0 horizon e.first e.last
span_as rules a b found span e is first last conflict = rw (first, last) (rw is at conflict)

pub said_as : (rules : Rules) (a b : Trajectory) (found : Option (ℕ × ℕ)) (solid : Bool) (span : ℕ × ℕ) (e : Edge) → found ≡ Some span → e.first ≡ span.0
    → e.last ≡ span.1 → e.solid ≡ solid → (solid ≡ true → IsSolid (IsLossSecond rules a b) found) → IsSolidAsSaid rules a b e
said_as rules a b found solid span e is first last same known = λ yes k begun ends.
    (rw is at (known (sym same ∙ yes))) k (omega (arith, first, begun)) (omega (arith, last, ends))
