use Rattle.std.proofs.Common.{◌≡◌, ℕ, ◌-◌, ◌<◌, ◌≤◌, suc, true, List, [], ◌∷◌, length, get_or, refl, arith}
use Rattle.mt_base.specs.declared.band.Band.{Band}
use Rattle.mt_base.specs.Tables.{ceiling_of, differ_from_next}
use Rattle.mt_tables.specs.Adding.{tops_rise}

-- the ceiling is the last top
pub ceiling_last : (bands : List Band) (d : Band) → 0 < length bands → (get_or bands (length bands - 1) d).top ≡ ceiling_of bands
ceiling_last [] d some = absurd (omega arith)
ceiling_last (b ∷ []) d some = refl
ceiling_last (b ∷ c ∷ bs) d some =
    let whole : length (b ∷ c ∷ bs) - 1 ≡ suc (length bs) = omega arith in
    let rest : length (c ∷ bs) - 1 ≡ length bs = omega arith in
    rw whole (rw rest at (ceiling_last (c ∷ bs) d (omega arith)))

-- of at most one band the tops rise, and at most one name is not followed by itself
pub few_rise : (bands : List Band) → length bands ≤ 1 → tops_rise bands ≡ true
few_rise [] few = refl
few_rise (b ∷ []) few = refl
few_rise (b ∷ c ∷ bs) few = absurd (omega arith)

pub few_differ : (names : List (List ℕ)) → length names ≤ 1 → differ_from_next names ≡ true
few_differ [] few = refl
few_differ (n ∷ []) few = refl
few_differ (n ∷ m ∷ ns) few = absurd (omega arith)
