-- The vertical margin of a second that climbs.
use Rattle.std.proofs.Common.{◌≡◌, ℕ, zero, suc, ℤ, pos, negsuc, ◌+ℤ◌, ◌-ℤ◌, ◌*ℤ◌, arith, of_z, w64, refl}
use Rattle.std.specs.Int.{int_min}
use Rattle.std.proofs.lemmas.Int.{clamps, ints}
use Rattle.mt_base.specs.declared.rules.Rules.{Rules}
use Rattle.mt_base.specs.Bounds.{AreWithinBounds, IsWithin}
use Rattle.mt_base.specs.Predictor.{margin_at, margin_gain}

pub margin_climbing : (rules : Rules) (climb w : ℤ) → (of_z w64 climb ≡ 0 → ⊥) → IsWithin (pos 0) (pos 600000) (margin_at rules climb w)
    → IsWithin (pos 0) (pos 600000) w
margin_climbing rules (pos zero) w climbs kept = absurd (climbs refl)
margin_climbing rules (pos (suc n)) w climbs kept = kept
margin_climbing rules (negsuc n) w climbs kept = kept

pub margin_gain_climbing : (rules : Rules) (climb w r : ℤ) → (of_z w64 climb ≡ 0 → ⊥) → r ≡ int_min rules.gv (rules.wmax -ℤ w) → r ≡ margin_gain rules climb w
margin_gain_climbing rules (pos zero) w r climbs is = absurd (climbs refl)
margin_gain_climbing rules (pos (suc n)) w r climbs is = is
margin_gain_climbing rules (negsuc n) w r climbs is = is

-- what it gains stays, or it gains nothing
pub margin_gain_stays : (rules : Rules) (climb w : ℤ) (k : ℕ) → (of_z w64 climb ≡ 0 → ⊥)
    → int_min rules.gv (rules.wmax -ℤ (w +ℤ int_min rules.gv (rules.wmax -ℤ w) *ℤ pos k)) ≡ int_min rules.gv (rules.wmax -ℤ w)
    → margin_gain rules climb (w +ℤ margin_gain rules climb w *ℤ pos k) ≡ margin_gain rules climb w
margin_gain_stays rules (pos zero) w k climbs stays = absurd (climbs refl)
margin_gain_stays rules (pos (suc n)) w k climbs stays = stays
margin_gain_stays rules (negsuc n) w k climbs stays = stays

-- a margin that begins anew in a level second has its first value there, and goes on from it
pub margin_stays : (rules : Rules) (climb w : ℤ) (k : ℕ) → margin_at rules climb (margin_at rules climb w +ℤ margin_gain rules climb w *ℤ pos k)
    ≡ margin_at rules climb w +ℤ margin_gain rules climb w *ℤ pos k
margin_stays rules (pos zero) w k = omega (arith, ints)
margin_stays rules (pos (suc n)) w k = refl
margin_stays rules (negsuc n) w k = refl

pub gain_at_margin : (rules : Rules) (climb w : ℤ) → margin_gain rules climb (margin_at rules climb w) ≡ margin_gain rules climb w
gain_at_margin rules (pos zero) w = refl
gain_at_margin rules (pos (suc n)) w = refl
gain_at_margin rules (negsuc n) w = refl

-- a margin that doesn't shrink is within the rules'
pub vertical_within : (rules : Rules) (climb w : ℤ) → AreWithinBounds rules → IsWithin (pos 0) (pos 600000) (margin_at rules climb w)
    → IsWithin (pos 0) (pos 10000) (margin_gain rules climb w) → IsWithin (pos 0) rules.wmax (margin_at rules climb w)
vertical_within rules (pos zero) w kept value growth = kept.w0
vertical_within rules (pos (suc n)) w kept value growth = omega (arith, ints, clamps, value, growth)
vertical_within rules (negsuc n) w kept value growth = omega (arith, ints, clamps, value, growth)
