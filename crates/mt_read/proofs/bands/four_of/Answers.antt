use Rattle.std.proofs.Common.{◌≡◌, List, [], ◌∷◌, length, None, refl, arith}
use Rattle.mt_json.specs.View.{items_view}
use Rattle.mt_json.specs.declared.value.Value.{Value}
use Rattle.mt_read.specs.Bands.{four_of}
use Rattle.mt_read.proofs.bands.four_of.Goals as goal
use Rattle.mt_read.proofs.bands.four_of.Goals.{in_default-via-then-values-lt4, in_default-via-else-values-lt4+else-values-lt5}

not_four : (vs : List Value) → (length vs ≡ 4 → ⊥) → None ≡ four_of (items_view vs)
not_four [] h = refl
not_four (a ∷ []) h = refl
not_four (a ∷ b ∷ []) h = refl
not_four (a ∷ b ∷ c ∷ []) h = refl
not_four (a ∷ b ∷ c ∷ d ∷ []) h = absurd (h (omega arith))
not_four (a ∷ b ∷ c ∷ d ∷ e ∷ vs) h = refl

pub returns-in_default : goal.returns-in_default
returns-in_default c =
    not_four c.args.values.now (λ e. elim c.in_default.branch [
      | in_default-via-then-values-lt4 w ↦ grind arith
      | in_default-via-else-values-lt4+else-values-lt5 w ↦ grind arith
    ])
