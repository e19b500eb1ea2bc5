-- Quadratics that are 0 or above at each fraction strictly between m/e and x/y, and the vertex.
use Rattle.std.proofs.Common.{◌≡◌, ℤ, pos, ◌+ℤ◌, ◌-ℤ◌, ◌*ℤ◌, neg_ℤ, ◌≤ℤ◌, ◌<ℤ◌, arith}
use Rattle.mt_ring.proofs.Ring.{lin, spread}
use Rattle.mt_ring.proofs.Signs.{mul_nonneg, mul_pos, square_nonneg, sum_nonneg, neg_nonneg, neg_below, weaken, nonneg_cancel}
use Rattle.mt_frac.specs.Polynomials.{value, slope, discriminant_of}
use Rattle.mt_frac.proofs.Fractions.{before_trans}

-- the value at n/d from those at the two ends
chord : (a b c n d m e x y : ℤ) → (x *ℤ e -ℤ m *ℤ y) *ℤ (e *ℤ y) *ℤ value a b c n d ≡ d *ℤ y *ℤ (x *ℤ d -ℤ n *ℤ y) *ℤ value a b c m e +ℤ d *ℤ e *ℤ (n *ℤ e -ℤ m *ℤ d) *ℤ value a b c x y +ℤ neg_ℤ a *ℤ ((n *ℤ e -ℤ m *ℤ d) *ℤ (x *ℤ d -ℤ n *ℤ y) *ℤ (x *ℤ e -ℤ m *ℤ y))
chord a b c n d m e x y = simp spread (omega (arith, lin))

-- the value at n/d from that at m/e and the slope there
from_start : (a b c n d m e : ℤ) → e *ℤ e *ℤ value a b c n d ≡ d *ℤ d *ℤ value a b c m e +ℤ (n *ℤ e -ℤ m *ℤ d) *ℤ (a *ℤ (n *ℤ e -ℤ m *ℤ d) +ℤ d *ℤ slope a b m e)
from_start a b c n d m e = simp spread (omega (arith, lin))

from_finish : (a b c n d x y : ℤ) → y *ℤ y *ℤ value a b c n d ≡ d *ℤ d *ℤ value a b c x y +ℤ (x *ℤ d -ℤ n *ℤ y) *ℤ (a *ℤ (x *ℤ d -ℤ n *ℤ y) +ℤ d *ℤ neg_ℤ (slope a b x y))
from_finish a b c n d x y = simp spread (omega (arith, lin))

-- the value from the slope and the discriminant
from_vertex : (a b c n d : ℤ) → pos 4 *ℤ a *ℤ value a b c n d ≡ slope a b n d *ℤ slope a b n d +ℤ neg_ℤ (discriminant_of a b c) *ℤ (d *ℤ d)
from_vertex a b c n d = simp spread (omega (arith, lin))

at_vertex : (a b c : ℤ) → value a b c (neg_ℤ b) (pos 2 *ℤ a) ≡ neg_ℤ (a *ℤ discriminant_of a b c)
at_vertex a b c = simp spread (omega (arith, lin))

-- it doesn't open upwards, and is 0 or above at both ends
pub concave_above : (a b c n d m e x y : ℤ) → a ≤ℤ pos 0 → pos 0 <ℤ d → pos 0 <ℤ e → pos 0 <ℤ y → (m *ℤ d) <ℤ (n *ℤ e) → (n *ℤ y) <ℤ (x *ℤ d) → pos 0 ≤ℤ value a b c m e → pos 0 ≤ℤ value a b c x y → pos 0 ≤ℤ value a b c n d
concave_above a b c n d m e x y a- d+ e+ y+ l r low high =
    let s : pos 0 <ℤ (n *ℤ e -ℤ m *ℤ d) = omega (arith, lin) in
    let t : pos 0 <ℤ (x *ℤ d -ℤ n *ℤ y) = omega (arith, lin) in
    let w : pos 0 <ℤ (x *ℤ e -ℤ m *ℤ y) = let h = before_trans m e n d x y e+ d+ y+ l r in omega (arith, lin) in
    let p1 = mul_nonneg _ (value a b c m e) (weaken (mul_pos _ _ (mul_pos d y d+ y+) t)) low in
    let p2 = mul_nonneg _ (value a b c x y) (weaken (mul_pos _ _ (mul_pos d e d+ e+) s)) high in
    let p3 = mul_nonneg (neg_ℤ a) _ (omega (arith, lin)) (weaken (mul_pos _ _ (mul_pos _ _ s t) w)) in
    nonneg_cancel ((x *ℤ e -ℤ m *ℤ y) *ℤ (e *ℤ y)) (value a b c n d) (mul_pos _ _ w (mul_pos e y e+ y+))
    (rw (chord a b c n d m e x y) (sum_nonneg _ _ (sum_nonneg _ _ p1 p2) p3))

-- it opens upwards and doesn't fall at the lower end, or doesn't rise at the upper one
pub rising_above : (a b c n d m e : ℤ) → pos 0 <ℤ a → pos 0 <ℤ d → pos 0 <ℤ e → (m *ℤ d) <ℤ (n *ℤ e) → pos 0 ≤ℤ slope a b m e → pos 0 ≤ℤ value a b c m e → pos 0 ≤ℤ value a b c n d
rising_above a b c n d m e a+ d+ e+ l up low =
    let s : pos 0 <ℤ (n *ℤ e -ℤ m *ℤ d) = omega (arith, lin) in
    let p1 = mul_nonneg (d *ℤ d) (value a b c m e) (square_nonneg d) low in
    let p2 = mul_nonneg d (slope a b m e) (weaken d+) up in
    let p3 = mul_nonneg _ _ (weaken s) (sum_nonneg _ _ (weaken (mul_pos a _ a+ s)) p2) in
    nonneg_cancel (e *ℤ e) (value a b c n d) (mul_pos e e e+ e+) (rw (from_start a b c n d m e) (sum_nonneg _ _ p1 p3))

pub falling_above : (a b c n d x y : ℤ) → pos 0 <ℤ a → pos 0 <ℤ d → pos 0 <ℤ y → (n *ℤ y) <ℤ (x *ℤ d) → slope a b x y ≤ℤ pos 0 → pos 0 ≤ℤ value a b c x y → pos 0 ≤ℤ value a b c n d
falling_above a b c n d x y a+ d+ y+ r down high =
    let t : pos 0 <ℤ (x *ℤ d -ℤ n *ℤ y) = omega (arith, lin) in
    let p1 = mul_nonneg (d *ℤ d) (value a b c x y) (square_nonneg d) high in
    let p2 = mul_nonneg d (neg_ℤ (slope a b x y)) (weaken d+) (neg_nonneg _ down) in
    let p3 = mul_nonneg _ _ (weaken t) (sum_nonneg _ _ (weaken (mul_pos a _ a+ t)) p2) in
    nonneg_cancel (y *ℤ y) (value a b c n d) (mul_pos y y y+ y+) (rw (from_finish a b c n d x y) (sum_nonneg _ _ p1 p3))

-- it opens upwards and has no two roots
pub no_roots_above : (a b c n d : ℤ) → pos 0 <ℤ a → discriminant_of a b c ≤ℤ pos 0 → pos 0 ≤ℤ value a b c n d
no_roots_above a b c n d a+ h =
    let p1 = square_nonneg (slope a b n d) in
    let p2 = mul_nonneg (neg_ℤ (discriminant_of a b c)) (d *ℤ d) (neg_nonneg _ h) (square_nonneg d) in
    nonneg_cancel (pos 4 *ℤ a) (value a b c n d) (omega (arith, lin)) (rw (from_vertex a b c n d) (sum_nonneg _ _ p1 p2))

-- it opens upwards and has two roots: its vertex is below 0
pub vertex_below : (a b c : ℤ) → pos 0 <ℤ a → pos 0 <ℤ discriminant_of a b c → value a b c (neg_ℤ b) (pos 2 *ℤ a) <ℤ pos 0
vertex_below a b c a+ h = rw (at_vertex a b c) (neg_below _ (mul_pos a (discriminant_of a b c) a+ h))

-- the vertex is after m/e where it falls there, and before x/y where it rises there
pub vertex_after : (a b m e : ℤ) → slope a b m e <ℤ pos 0 → (m *ℤ (pos 2 *ℤ a)) <ℤ (neg_ℤ b *ℤ e)
vertex_after a b m e h = simp spread (omega (arith, lin, simp spread at h))

pub vertex_until : (a b x y : ℤ) → pos 0 <ℤ slope a b x y → (neg_ℤ b *ℤ y) <ℤ (x *ℤ (pos 2 *ℤ a))
vertex_until a b x y h = simp spread (omega (arith, lin, simp spread at h))
