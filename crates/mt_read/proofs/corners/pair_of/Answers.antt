use Rattle.std.proofs.Common.{◌≡◌, List, [], ◌∷◌, length, None, refl, arith}
use Rattle.mt_json.specs.View.{items_view}
use Rattle.mt_json.specs.declared.value.Value.{Value}
use Rattle.mt_read.specs.Corners.{pair_of}
use Rattle.mt_read.proofs.corners.pair_of.Goals as goal
use Rattle.mt_read.proofs.corners.pair_of.Goals.{in_default-via-then-values-lt2, in_default-via-else-values-lt2+else-values-lt3}

not_two : (vs : List Value) → (length vs ≡ 2 → ⊥) → None ≡ pair_of (items_view vs)
not_two [] h = refl
not_two (a ∷ []) h = refl
not_two (a ∷ b ∷ []) h = absurd (h (omega arith))
not_two (a ∷ b ∷ c ∷ vs) h = refl

pub returns-in_default : goal.returns-in_default
returns-in_default c =
    not_two c.args.values.now (λ e. elim c.in_default.branch [
      | in_default-via-then-values-lt2 w ↦ grind arith
      | in_default-via-else-values-lt2+else-values-lt3 w ↦ grind arith
    ])
