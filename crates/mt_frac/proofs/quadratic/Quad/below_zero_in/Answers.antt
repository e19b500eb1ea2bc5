use Rattle.mt_ring.proofs.Signs.{cases_lt, contrary}
use Rattle.std.proofs.Common.{⊎_elim, ℤ, arith, pos, neg_ℤ, ◌*ℤ◌, ◌<ℤ◌, refl, sym, true≢false}
use Rattle.std.proofs.lemmas.Int.{ints}
use Rattle.mt_frac.specs.declared.fraction.Frac.{Frac}
use Rattle.mt_frac.specs.declared.quadratic.Quad.{Quad}
use Rattle.mt_frac.specs.Signs.{IsBelowZeroIn}
use Rattle.mt_frac.specs.Polynomials.{value, slope, discriminant_of}
use Rattle.mt_frac.proofs.Comparisons.{ge_no, ge_yes, gt_from, gt_yes, le_no, le_yes, lt_yes, lt_no}
use Rattle.mt_frac.proofs.Fractions.{positive}
use Rattle.mt_frac.proofs.Overflow.{discriminant_fits, slope_fits}
use Rattle.mt_frac.proofs.Openness.{HoldsInside, value_is_open, inside_at_start, inside_at_end}
use Rattle.mt_frac.proofs.Convexity.{concave_above, rising_above, falling_above, no_roots_above, vertex_below, vertex_after, vertex_until}
use Rattle.mt_frac.proofs.quadratic.Quad.below_zero_in.Goals as goal

-- a fraction strictly inside at which the quadratic is below 0 is what the contract speaks of
is_below_in : (q : Quad) (lo hi : Frac) → HoldsInside (λ n d. value q.a q.b q.c n d <ℤ pos 0) lo.num lo.den hi.num hi.den → IsBelowZeroIn q lo hi
is_below_in q lo hi some = record {
  n = some.n;
  d = some.d;
  positive = some.positive;
  between = record { after = some.after; until = some.until };
  below = some.holds;
}

twice_above : (a : ℤ) → pos 0 <ℤ a → pos 0 <ℤ (pos 2 *ℤ a)
twice_above a h = omega (arith, ints)

-- below 0 at the lower end
pub returns-then-is_lt : goal.returns-then-is_lt
returns-then-is_lt c =
    let q = c.args.self in
    let lo = c.args.lo in
    let hi = c.args.hi in
    let low = lt_yes (value q.a q.b q.c lo.num lo.den) (pos 0) _ _ c.sign_at.ensures c.is_lt.ensures c.if-is_lt.true in
    let some = inside_at_start (λ n d. value q.a q.b q.c n d <ℤ pos 0) lo.num lo.den hi.num hi.den (positive lo) (positive hi) c.requires.ordered ((value_is_open q.a q.b q.c).near lo.num lo.den hi.num hi.den low) in
    (λ _. is_below_in q lo hi some, λ _. refl)

-- below 0 at the upper end
pub returns-then-is_lt-2 : goal.returns-then-is_lt-2
returns-then-is_lt-2 c =
    let q = c.args.self in
    let lo = c.args.lo in
    let hi = c.args.hi in
    let high = lt_yes (value q.a q.b q.c hi.num hi.den) (pos 0) _ _ c.sign_at-2.ensures c.is_lt-2.ensures c.if-is_lt-2.true in
    let some = inside_at_end (λ n d. value q.a q.b q.c n d <ℤ pos 0) lo.num lo.den hi.num hi.den (positive lo) (positive hi) c.requires.ordered ((value_is_open q.a q.b q.c).near hi.num hi.den lo.num lo.den high) in
    (λ _. is_below_in q lo hi some, λ _. refl)

-- not below 0 at either end, and not open upwards
pub returns-then-self-le0 : goal.returns-then-self-le0
returns-then-self-le0 c =
    let q = c.args.self in
    let lo = c.args.lo in
    let hi = c.args.hi in
    let low = lt_no (value q.a q.b q.c lo.num lo.den) (pos 0) _ _ c.sign_at.ensures c.is_lt.ensures c.if-is_lt.false in
    let high = lt_no (value q.a q.b q.c hi.num hi.den) (pos 0) _ _ c.sign_at-2.ensures c.is_lt-2.ensures c.if-is_lt-2.false in
    let fits = slope_fits q lo c.requires.coefficients in (
      λ t. absurd (true≢false (sym t)),
      λ some. absurd (contrary _ (concave_above q.a q.b q.c some.n some.d lo.num lo.den hi.num hi.den (le_yes q.a q.a refl fits.fits_a c.if-self-le0.true) some.positive (positive lo) (positive hi) some.between.after some.between.until low high) some.below),
    )

pub returns-then-slope_at-ge0 : goal.returns-then-slope_at-ge0
returns-then-slope_at-ge0 c =
    let q = c.args.self in
    let lo = c.args.lo in
    let low = lt_no (value q.a q.b q.c lo.num lo.den) (pos 0) _ _ c.sign_at.ensures c.is_lt.ensures c.if-is_lt.false in
    let fits = slope_fits q lo c.requires.coefficients in
    let up = ge_yes _ (slope q.a q.b lo.num lo.den) c.slope_at.ensures fits.fits_all c.if-slope_at-ge0.true in (
      λ t. absurd (true≢false (sym t)),
      λ some. absurd (contrary _ (rising_above q.a q.b q.c some.n some.d lo.num lo.den (le_no q.a q.a refl fits.fits_a c.if-self-le0.false) some.positive (positive lo) some.between.after up low) some.below),
    )

pub returns-then-slope_at-le0 : goal.returns-then-slope_at-le0
returns-then-slope_at-le0 c =
    let q = c.args.self in
    let hi = c.args.hi in
    let high = lt_no (value q.a q.b q.c hi.num hi.den) (pos 0) _ _ c.sign_at-2.ensures c.is_lt-2.ensures c.if-is_lt-2.false in
    let fits = slope_fits q hi c.requires.coefficients in
    let down = le_yes _ (slope q.a q.b hi.num hi.den) c.slope_at-2.ensures fits.fits_all c.if-slope_at-le0.true in (
      λ t. absurd (true≢false (sym t)),
      λ some. absurd (contrary _ (falling_above q.a q.b q.c some.n some.d hi.num hi.den (le_no q.a q.a refl fits.fits_a c.if-self-le0.false) some.positive (positive hi) some.between.until down high) some.below),
    )

-- open upwards with the vertex strictly inside: the discriminant decides
pub returns : goal.returns
returns c =
    let q = c.args.self in
    let lo = c.args.lo in
    let hi = c.args.hi in
    let wide = discriminant_of q.a q.b q.c in
    let fits_lo = slope_fits q lo c.requires.coefficients in
    let fits_hi = slope_fits q hi c.requires.coefficients in
    let fits = discriminant_fits q c.requires.coefficients in
    let a+ : pos 0 <ℤ q.a = le_no q.a q.a refl fits.fits_a c.if-self-le0.false in
    let down = ge_no _ (slope q.a q.b lo.num lo.den) c.slope_at.ensures fits_lo.fits_all c.if-slope_at-ge0.false in
    let up = le_no _ (slope q.a q.b hi.num hi.den) c.slope_at-2.ensures fits_hi.fits_all c.if-slope_at-le0.false in (
      λ t. let roots : pos 0 <ℤ wide = gt_yes _ wide c.discriminant.ensures fits.fits_all t in record {
        n = neg_ℤ q.b;
        d = pos 2 *ℤ q.a;
        positive = twice_above q.a a+;
        between = record { after = vertex_after q.a q.b lo.num lo.den down; until = vertex_until q.a q.b hi.num hi.den up };
        below = vertex_below q.a q.b q.c a+ roots;
      },
      λ some. let roots : pos 0 <ℤ wide = ⊎_elim (λ h. h) (λ h. absurd (contrary _ (no_roots_above q.a q.b q.c some.n some.d a+ h) some.below)) (cases_lt (pos 0) wide) in
          gt_from _ wide c.discriminant.ensures fits.fits_all roots,
    )
