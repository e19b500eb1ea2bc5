-- The order of fractions, over plain numbers: m/e is before n/d where m d < n e, with denominators above 0.
use Rattle.std.proofs.Common.{ℤ, pos, ◌-ℤ◌, ◌*ℤ◌, ◌≤ℤ◌, ◌<ℤ◌, arith}
use Rattle.std.proofs.lemmas.Int.{ints}
use Rattle.mt_frac.specs.declared.fraction.Frac.{Frac}
use Rattle.mt_ring.proofs.Ring.{lin, spread}
use Rattle.mt_ring.proofs.Signs.{mul_nonneg, mul_pos, weaken, below_cancel}

-- m/e before n/d before x/y
pub before_trans : (m e n d x y : ℤ) → pos 0 <ℤ e → pos 0 <ℤ d → pos 0 <ℤ y → (m *ℤ d) <ℤ (n *ℤ e) → (n *ℤ y) <ℤ (x *ℤ d) → (m *ℤ y) <ℤ (x *ℤ e)
before_trans m e n d x y e+ d+ y+ l r =
    let p1 = mul_pos (n *ℤ e -ℤ m *ℤ d) y (omega (arith, lin)) y+ in
    let p2 = mul_pos (x *ℤ d -ℤ n *ℤ y) e (omega (arith, lin)) e+ in
    let q = below_cancel d (m *ℤ y -ℤ x *ℤ e) d+ (simp spread (omega (arith, lin, simp spread at p1, simp spread at p2))) in
    omega (arith, lin)

-- m/e at or before n/d, before x/y
pub at_most_trans : (m e n d x y : ℤ) → pos 0 <ℤ e → pos 0 <ℤ d → pos 0 <ℤ y → (m *ℤ d) ≤ℤ (n *ℤ e) → (n *ℤ y) <ℤ (x *ℤ d) → (m *ℤ y) <ℤ (x *ℤ e)
at_most_trans m e n d x y e+ d+ y+ l r =
    let p1 = mul_nonneg (n *ℤ e -ℤ m *ℤ d) y (omega (arith, lin)) (weaken y+) in
    let p2 = mul_pos (x *ℤ d -ℤ n *ℤ y) e (omega (arith, lin)) e+ in
    let q = below_cancel d (m *ℤ y -ℤ x *ℤ e) d+ (simp spread (omega (arith, lin, simp spread at p1, simp spread at p2))) in
    omega (arith, lin)

-- m/e before n/d, which is at or before x/y
pub trans_at_most : (m e n d x y : ℤ) → pos 0 <ℤ e → pos 0 <ℤ d → pos 0 <ℤ y → (m *ℤ d) <ℤ (n *ℤ e) → (n *ℤ y) ≤ℤ (x *ℤ d) → (m *ℤ y) <ℤ (x *ℤ e)
trans_at_most m e n d x y e+ d+ y+ l r =
    let p1 = mul_pos (n *ℤ e -ℤ m *ℤ d) y (omega (arith, lin)) y+ in
    let p2 = mul_nonneg (x *ℤ d -ℤ n *ℤ y) e (omega (arith, lin)) (weaken e+) in
    let q = below_cancel d (m *ℤ y -ℤ x *ℤ e) d+ (simp spread (omega (arith, lin, simp spread at p1, simp spread at p2))) in
    omega (arith, lin)

-- a denominator is above 0
pub positive : (f : Frac) → pos 0 <ℤ f.den
positive f = let h = f.den_positive in omega (arith, ints)
