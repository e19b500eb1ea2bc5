-- Lines between m/e and x/y, and on both sides of their root r/s.
use Rattle.std.proofs.Common.{◌≡◌, ⊎_elim, ℤ, pos, ◌+ℤ◌, ◌-ℤ◌, ◌*ℤ◌, neg_ℤ, ◌≤ℤ◌, ◌<ℤ◌, arith, ap}
use Rattle.mt_ring.proofs.Ring.{lin, spread}
use Rattle.mt_ring.proofs.Signs.{mul_nonneg, weaken, cases_lt, sum_nonneg, sum_below, times_below, times_not_above, contrary, nonneg_cancel, below_cancel}
use Rattle.mt_frac.specs.Polynomials.{line_value}
use Rattle.mt_frac.proofs.Fractions.{before_trans}

-- the value at n/d from those at the two ends
mixed : (b c n d m e x y : ℤ) → (x *ℤ e -ℤ m *ℤ y) *ℤ line_value b c n d ≡ (x *ℤ d -ℤ n *ℤ y) *ℤ line_value b c m e +ℤ (n *ℤ e -ℤ m *ℤ d) *ℤ line_value b c x y
mixed b c n d m e x y = simp spread (omega (arith, lin))

ascent : (b c m e x y : ℤ) → e *ℤ line_value b c x y -ℤ y *ℤ line_value b c m e ≡ b *ℤ (x *ℤ e -ℤ m *ℤ y)
ascent b c m e x y = simp spread (omega (arith, lin))

-- differences with a known sign
difference_below : (p q : ℤ) → p <ℤ pos 0 → pos 0 ≤ℤ q → (p -ℤ q) <ℤ pos 0
difference_below p q h k = omega (arith, lin)

difference_above : (p q : ℤ) → pos 0 ≤ℤ p → q <ℤ pos 0 → pos 0 <ℤ (p -ℤ q)
difference_above p q h k = omega (arith, lin)

-- 0 or above at both ends
pub both_above : (b c n d m e x y : ℤ) → pos 0 <ℤ d → pos 0 <ℤ e → pos 0 <ℤ y → (m *ℤ d) <ℤ (n *ℤ e) → (n *ℤ y) <ℤ (x *ℤ d) → pos 0 ≤ℤ line_value b c m e → pos 0 ≤ℤ line_value b c x y → pos 0 ≤ℤ line_value b c n d
both_above b c n d m e x y d+ e+ y+ l r low high =
    let w : pos 0 <ℤ (x *ℤ e -ℤ m *ℤ y) = let h = before_trans m e n d x y e+ d+ y+ l r in omega (arith, lin) in
    let p1 = mul_nonneg (x *ℤ d -ℤ n *ℤ y) (line_value b c m e) (omega (arith, lin)) low in
    let p2 = mul_nonneg (n *ℤ e -ℤ m *ℤ d) (line_value b c x y) (omega (arith, lin)) high in
    nonneg_cancel (x *ℤ e -ℤ m *ℤ y) (line_value b c n d) w (rw (mixed b c n d m e x y) (sum_nonneg _ _ p1 p2))

-- below 0 at the lower end, and not above it at the upper
pub both_below : (b c n d m e x y : ℤ) → pos 0 <ℤ d → pos 0 <ℤ e → pos 0 <ℤ y → (m *ℤ d) <ℤ (n *ℤ e) → (n *ℤ y) <ℤ (x *ℤ d) → line_value b c m e <ℤ pos 0 → line_value b c x y ≤ℤ pos 0 → line_value b c n d <ℤ pos 0
both_below b c n d m e x y d+ e+ y+ l r low high =
    let w : pos 0 <ℤ (x *ℤ e -ℤ m *ℤ y) = let h = before_trans m e n d x y e+ d+ y+ l r in omega (arith, lin) in
    let p1 = times_below (x *ℤ d -ℤ n *ℤ y) (line_value b c m e) (omega (arith, lin)) low in
    let p2 = times_not_above (n *ℤ e -ℤ m *ℤ d) (line_value b c x y) (omega (arith, lin)) high in
    below_cancel (x *ℤ e -ℤ m *ℤ y) (line_value b c n d) w (rw (mixed b c n d m e x y) (sum_below _ _ p1 p2))

-- it falls where it is below 0 at the upper end and not at the lower one, and rises the other way round
pub falls : (b c m e x y : ℤ) → pos 0 <ℤ e → pos 0 <ℤ y → (m *ℤ y) <ℤ (x *ℤ e) → pos 0 ≤ℤ line_value b c m e → line_value b c x y <ℤ pos 0 → b <ℤ pos 0
falls b c m e x y e+ y+ h low high =
    let p1 = times_below e (line_value b c x y) e+ high in
    let p2 = mul_nonneg y (line_value b c m e) (weaken y+) low in
    let q : (b *ℤ (x *ℤ e -ℤ m *ℤ y)) <ℤ pos 0 = rw (← ascent b c m e x y) (difference_below _ _ p1 p2) in
    ⊎_elim (λ k. k) (λ k. let p = mul_nonneg b (x *ℤ e -ℤ m *ℤ y) k (omega (arith, lin)) in absurd (omega (arith, lin))) (cases_lt b (pos 0))

pub rises : (b c m e x y : ℤ) → pos 0 <ℤ e → pos 0 <ℤ y → (m *ℤ y) <ℤ (x *ℤ e) → line_value b c m e <ℤ pos 0 → pos 0 ≤ℤ line_value b c x y → pos 0 <ℤ b
rises b c m e x y e+ y+ h low high =
    let p1 = mul_nonneg e (line_value b c x y) (weaken e+) high in
    let p2 = times_below y (line_value b c m e) y+ low in
    let q : pos 0 <ℤ (b *ℤ (x *ℤ e -ℤ m *ℤ y)) = rw (← ascent b c m e x y) (difference_above _ _ p1 p2) in
    ⊎_elim (λ k. k) (λ k. let p = times_not_above (x *ℤ e -ℤ m *ℤ y) b (omega (arith, lin)) k in absurd (omega (arith, lin, simp spread at p, simp spread at q))) (cases_lt (pos 0) b)

-- the value at n/d from how far it is from the root
from_root : (b c r s n d : ℤ) → line_value b c r s ≡ pos 0 → s *ℤ line_value b c n d ≡ b *ℤ (n *ℤ s -ℤ r *ℤ d)
from_root b c r s n d zero = let e = ap (λ (z : ℤ). z *ℤ d) zero in simp spread (omega (arith, lin, simp spread at e))

-- a falling line is below 0 exactly after its root
pub below_after : (b c r s n d : ℤ) → pos 0 <ℤ s → b <ℤ pos 0 → line_value b c r s ≡ pos 0 → line_value b c n d <ℤ pos 0 → (r *ℤ d) <ℤ (n *ℤ s)
below_after b c r s n d s+ b- zero low =
    let p = times_below s (line_value b c n d) s+ low in
    let q : (b *ℤ (n *ℤ s -ℤ r *ℤ d)) <ℤ pos 0 = rw (← from_root b c r s n d zero) p in
    let k = below_cancel (neg_ℤ b) (r *ℤ d -ℤ n *ℤ s) (omega (arith, lin)) (simp spread (omega (arith, lin, simp spread at q))) in
    omega (arith, lin)

pub after_below : (b c r s n d : ℤ) → pos 0 <ℤ s → b <ℤ pos 0 → line_value b c r s ≡ pos 0 → (r *ℤ d) <ℤ (n *ℤ s) → line_value b c n d <ℤ pos 0
after_below b c r s n d s+ b- zero h =
    let p = times_below (n *ℤ s -ℤ r *ℤ d) b (omega (arith, lin)) b- in
    below_cancel s (line_value b c n d) s+ (rw (from_root b c r s n d zero) (simp spread (omega (arith, lin, simp spread at p))))

-- a rising line is below 0 exactly before its root
pub below_before : (b c r s n d : ℤ) → pos 0 <ℤ s → pos 0 <ℤ b → line_value b c r s ≡ pos 0 → line_value b c n d <ℤ pos 0 → (n *ℤ s) <ℤ (r *ℤ d)
below_before b c r s n d s+ b+ zero low =
    let p = times_below s (line_value b c n d) s+ low in
    let q : (b *ℤ (n *ℤ s -ℤ r *ℤ d)) <ℤ pos 0 = rw (← from_root b c r s n d zero) p in
    let k = below_cancel b (n *ℤ s -ℤ r *ℤ d) b+ q in
    omega (arith, lin)

pub before_below : (b c r s n d : ℤ) → pos 0 <ℤ s → pos 0 <ℤ b → line_value b c r s ≡ pos 0 → (n *ℤ s) <ℤ (r *ℤ d) → line_value b c n d <ℤ pos 0
before_below b c r s n d s+ b+ zero h =
    let p = times_below b (n *ℤ s -ℤ r *ℤ d) b+ (omega (arith, lin)) in
    below_cancel s (line_value b c n d) s+ (rw (from_root b c r s n d zero) p)

-- the root is at or after a fraction where a falling line isn't below 0, and at or before one where a rising line isn't
pub root_at_least : (b c r s n d : ℤ) → pos 0 <ℤ s → b <ℤ pos 0 → line_value b c r s ≡ pos 0 → pos 0 ≤ℤ line_value b c n d → (n *ℤ s) ≤ℤ (r *ℤ d)
root_at_least b c r s n d s+ b- zero h =
    ⊎_elim (λ k. let low = after_below b c r s n d s+ b- zero k in absurd (contrary _ h low)) (λ k. k) (cases_lt (r *ℤ d) (n *ℤ s))

pub root_at_most : (b c r s n d : ℤ) → pos 0 <ℤ s → pos 0 <ℤ b → line_value b c r s ≡ pos 0 → pos 0 ≤ℤ line_value b c n d → (r *ℤ d) ≤ℤ (n *ℤ s)
root_at_most b c r s n d s+ b+ zero h =
    ⊎_elim (λ k. let low = before_below b c r s n d s+ b+ zero k in absurd (contrary _ h low)) (λ k. k) (cases_lt (n *ℤ s) (r *ℤ d))
