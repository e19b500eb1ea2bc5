-- For how long a climb stays the same.
use Rattle.std.proofs.Common.{◌≡◌, ℕ, zero, suc, ◌+◌, ◌*◌, ◌<◌, ◌≤◌, ℤ, pos, negsuc, neg_ℤ, ◌+ℤ◌, ◌-ℤ◌, ◌*ℤ◌, ◌<ℤ◌, ◌≤ℤ◌, unsigned_abs, List, sym, ap, ◌∙◌, arith, refl, of_z, w64}
use Rattle.std.specs.Int.{int_max, int_min}
use Rattle.std.proofs.lemmas.Int.{clamps, ints}
use Rattle.mt_base.specs.declared.band.Band.{Band}
use Rattle.mt_base.specs.declared.rules.Rules.{Rules}
use Rattle.mt_base.specs.Bounds.{AreBoundedBands, IsBoundedBand, IsWithin}
use Rattle.mt_base.specs.Predictor.{band_at, climb_from}
use Rattle.mt_predict.specs.Manners.{manner}
use Rattle.mt_predict.proofs.Bounds.{band_kept}

-- the climb of a second with so much left to the level, at a band's rates
abbrev climb_by : Band → ℤ → ℤ
climb_by b left = int_max (int_min left b.climb) (neg_ℤ b.descent)

climb_is_by : (rules : Rules) (bands : List Band) (level : ℕ) (z : ℤ) → climb_from (manner rules bands level) z ≡ climb_by (band_at bands z) (pos (6000 * level) -ℤ z)
unfolding climb_from
climb_is_by rules bands level z = refl

-- its bounds
pub climb_kept : (rules : Rules) (bands : List Band) (level : ℕ) (z climb : ℤ) → AreBoundedBands bands → climb ≡ climb_from (manner rules bands level) z
    → IsWithin (neg_ℤ (pos 10000)) (pos 10000) climb
climb_kept rules bands level z climb bounded is =
    let kept = band_kept bands z bounded in
    let by = is ∙ climb_is_by rules bands level z in
    let c = kept.climb in
    let d = kept.descent in
    omega (arith, ints, clamps, c, d, by)

pub climb_ahead : (rules : Rules) (bands : List Band) (level : ℕ) (z climb : ℤ) → AreBoundedBands bands → climb ≡ climb_from (manner rules bands level) z
    → pos 0 <ℤ climb → (z +ℤ climb) ≤ℤ pos (6000 * level)
climb_ahead rules bands level z climb bounded is climbs =
    let kept = band_kept bands z bounded in
    let by = is ∙ climb_is_by rules bands level z in
    let d = kept.descent in
    omega (arith, ints, clamps, d, by, climbs)

pub descent_ahead : (rules : Rules) (bands : List Band) (level : ℕ) (z climb : ℤ) → AreBoundedBands bands → climb ≡ climb_from (manner rules bands level) z
    → climb ≤ℤ pos 0 → pos (6000 * level) ≤ℤ (z +ℤ climb)
descent_ahead rules bands level z climb bounded is descends =
    let kept = band_kept bands z bounded in
    let by = is ∙ climb_is_by rules bands level z in
    let c = kept.climb in
    omega (arith, ints, clamps, c, by, descends)

-- at full rate it stays while at least as much is left
by_stays_up : (b : Band) (left : ℤ) (g d : ℕ) → IsBoundedBand b → 0 < g → pos g ≡ climb_by b left → (pos d +ℤ pos g) ≤ℤ left → climb_by b (left -ℤ pos d) ≡ pos g
by_stays_up b left g d kept some is fits = let c = kept.climb in let e = kept.descent in omega (arith, ints, clamps, c, e, some, is, fits)

by_stays_down : (b : Band) (left : ℤ) (g d : ℕ) → IsBoundedBand b → neg_ℤ (pos g) ≡ climb_by b left → left ≤ℤ neg_ℤ (pos d +ℤ pos g)
    → climb_by b (left +ℤ pos d) ≡ neg_ℤ (pos g)
by_stays_down b left g d kept is fits = let c = kept.climb in let e = kept.descent in omega (arith, ints, clamps, c, e, is, fits)

-- the same heights, so much higher or lower, are held by the same band
up_within : (to : ℕ) (z lowest highest : ℤ) (g d ahead : ℕ) → IsWithin (pos 0) z lowest → IsWithin z (pos 3600000) highest
    → pos ahead ≡ int_min (pos to) (highest +ℤ pos g) -ℤ z → d + g ≤ ahead → IsWithin lowest highest (z +ℤ pos d)
up_within to z lowest highest g d ahead l h is fits = omega (arith, ints, clamps, l, h, is, fits)

up_left : (to : ℕ) (z highest : ℤ) (g d ahead : ℕ) → pos ahead ≡ int_min (pos to) (highest +ℤ pos g) -ℤ z → d + g ≤ ahead → (pos d +ℤ pos g) ≤ℤ (pos to -ℤ z)
up_left to z highest g d ahead is fits = omega (arith, ints, clamps, is, fits)

down_within : (to : ℕ) (z lowest highest : ℤ) (g d ahead : ℕ) → IsWithin (pos 0) z lowest → IsWithin z (pos 3600000) highest
    → pos ahead ≡ z -ℤ int_max (pos to) (lowest +ℤ neg_ℤ (pos g)) → d + g ≤ ahead → IsWithin lowest highest (z -ℤ pos d)
down_within to z lowest highest g d ahead l h is fits = omega (arith, ints, clamps, l, h, is, fits)

down_left : (to : ℕ) (z lowest : ℤ) (g d ahead : ℕ) → pos ahead ≡ z -ℤ int_max (pos to) (lowest +ℤ neg_ℤ (pos g)) → d + g ≤ ahead
    → (pos to -ℤ z) ≤ℤ neg_ℤ (pos d +ℤ pos g)
down_left to z lowest g d ahead is fits = omega (arith, ints, clamps, is, fits)

-- a climb or a descent stays while its seconds begin in the layer and end no further than the level
pub climb_stays : (given rules : Rules) (bands : List Band) (level : ℕ) (z climb lowest highest : ℤ) (ahead rate k : ℕ) → AreBoundedBands bands
    → climb ≡ climb_from (manner given bands level) z → IsWithin (pos 0) z lowest → IsWithin z (pos 3600000) highest
    → ((h : ℤ) → IsWithin lowest highest h → band_at bands h ≡ band_at bands z)
    → (pos 0 <ℤ climb → pos ahead ≡ int_min (pos (6000 * level)) (highest +ℤ climb) -ℤ z)
    → (climb ≤ℤ pos 0 → pos ahead ≡ z -ℤ int_max (pos (6000 * level)) (lowest +ℤ climb))
    → rate ≡ unsigned_abs climb → 0 < rate → rate * k + rate ≤ ahead → climb_from (manner rules bands level) (z +ℤ climb *ℤ pos k) ≡ climb
climb_stays given rules bands level z (pos g) lowest highest ahead rate k bounded is l h same up down rate_is some fits =
    let kept = band_kept bands z bounded in
    let by : pos g ≡ climb_by (band_at bands z) (pos (6000 * level) -ℤ z) = is ∙ climb_is_by given bands level z in
    let reach = up (omega (arith, ints, rate_is)) in
    let fits_by : g * k + g ≤ ahead = rw rate_is at fits in
    let moved : z +ℤ pos g *ℤ pos k ≡ z +ℤ pos (g * k) = omega (arith, ints) in
    let left : pos (6000 * level) -ℤ (z +ℤ pos (g * k)) ≡ (pos (6000 * level) -ℤ z) -ℤ pos (g * k) = omega (arith, ints) in
    ap (climb_from (manner rules bands level)) moved ∙ climb_is_by rules bands level (z +ℤ pos (g * k))
    ∙ rw (same (z +ℤ pos (g * k)) (up_within (6000 * level) z lowest highest g (g * k) ahead l h reach fits_by), left)
    (by_stays_up (band_at bands z) (pos (6000 * level) -ℤ z) g (g * k) kept (omega (arith, rate_is)) by (up_left (6000 * level) z highest g (g * k) ahead reach fits_by))
climb_stays given rules bands level z (negsuc n) lowest highest ahead rate k bounded is l h same up down rate_is some fits =
    let kept = band_kept bands z bounded in
    let by : negsuc n ≡ climb_by (band_at bands z) (pos (6000 * level) -ℤ z) = is ∙ climb_is_by given bands level z in
    let reach = down (omega (arith, ints)) in
    let fits_by : suc n * k + suc n ≤ ahead = rw rate_is at fits in
    let moved : z +ℤ negsuc n *ℤ pos k ≡ z -ℤ pos (suc n * k) = omega (arith, ints) in
    let left : pos (6000 * level) -ℤ (z -ℤ pos (suc n * k)) ≡ (pos (6000 * level) -ℤ z) +ℤ pos (suc n * k) = omega (arith, ints) in
    ap (climb_from (manner rules bands level)) moved ∙ climb_is_by rules bands level (z -ℤ pos (suc n * k))
    ∙ rw (same (z -ℤ pos (suc n * k)) (down_within (6000 * level) z lowest highest (suc n) (suc n * k) ahead l h reach fits_by), left)
    (by_stays_down (band_at bands z) (pos (6000 * level) -ℤ z) (suc n) (suc n * k) kept by (down_left (6000 * level) z lowest (suc n) (suc n * k) ahead reach fits_by))

pub level_stays : (given rules : Rules) (bands : List Band) (level : ℕ) (z climb : ℤ) (k : ℕ) → climb ≡ climb_from (manner given bands level) z → climb ≡ pos 0
    → climb_from (manner rules bands level) (z +ℤ climb *ℤ pos k) ≡ climb
level_stays given rules bands level z climb k is flat =
    let stays : z +ℤ climb *ℤ pos k ≡ z = rw flat (omega (arith, ints)) in
    rw stays (climb_is_by rules bands level z ∙ sym (climb_is_by given bands level z) ∙ sym is)

-- a second at least
pub rate_some : (climb : ℤ) (rate : ℕ) → (of_z w64 climb ≡ 0 → ⊥) → rate ≡ unsigned_abs climb → 0 < rate
rate_some (pos zero) rate climbs is = absurd (climbs refl)
rate_some (pos (suc n)) rate climbs is = omega (arith, is)
rate_some (negsuc n) rate climbs is = omega (arith, is)

pub rate_ahead : (to z climb lowest highest : ℤ) (ahead rate : ℕ) → IsWithin (pos 0) z lowest → IsWithin z (pos 3600000) highest
    → (pos 0 <ℤ climb → (z +ℤ climb) ≤ℤ to) → (climb ≤ℤ pos 0 → to ≤ℤ (z +ℤ climb))
    → (pos 0 <ℤ climb → pos ahead ≡ int_min to (highest +ℤ climb) -ℤ z) → (climb ≤ℤ pos 0 → pos ahead ≡ z -ℤ int_max to (lowest +ℤ climb))
    → rate ≡ unsigned_abs climb → 0 < rate → rate ≤ ahead
rate_ahead to z (pos g) lowest highest ahead rate l h above below up down is some =
    let climbs : pos 0 <ℤ pos g = omega (arith, ints, is, some) in
    omega (arith, ints, clamps, l, h, above climbs, up climbs, is)
rate_ahead to z (negsuc n) lowest highest ahead rate l h above below up down is some =
    let descends : negsuc n ≤ℤ pos 0 = omega (arith, ints) in
    omega (arith, ints, clamps, l, h, below descends, down descends, is)
