-- Where two rows are too near at two instants, they are so at each instant between. A distance that stays below a width is a cone, and a line is
-- below 0 on one side of where it is 0.
use Rattle.std.proofs.Common.{◌≡◌, ℕ, ◌<◌, ◌≤◌, ℤ, pos, ◌+ℤ◌, ◌-ℤ◌, ◌*ℤ◌, ◌≤ℤ◌, ◌<ℤ◌, arith, subst, ⊎_elim}
use Rattle.std.proofs.lemmas.Bool.{cases_lt}
use Rattle.std.proofs.lemmas.Int.{ints}
use Rattle.mt_ring.proofs.Ring.{lin, spread}
use Rattle.mt_ring.proofs.Signs.{below_cancel, mul_nonneg, mul_pos, nonneg_cancel, square_nonneg, times_below, weaken}
use Rattle.mt_base.specs.Bounds.{AreWithinBounds, IsBoundedRow}
use Rattle.mt_base.specs.declared.row.Row.{Row}
use Rattle.mt_base.specs.declared.rules.Rules.{Rules}
use Rattle.mt_frac.specs.declared.linear.Linear.{Linear}
use Rattle.mt_frac.specs.Instants.{HoldsIn}
use Rattle.mt_frac.specs.Polynomials.{value, line_value}
use Rattle.mt_frac.proofs.Fractions.{before_trans}
use Rattle.mt_pair.specs.declared.horizontal.Offset.{Offset}
use Rattle.mt_pair.specs.Gap.{gain_of, gap_of, offset_of, square_over_time}
use Rattle.mt_pair.specs.Private.Below.{AreBelowAt}

-- n/d lies strictly between m/e and x/y, and none is before the start
pub record AreInOrder (m e n d x y : ℤ) : Type 0 where
  pub begun : pos 0 ≤ℤ m
  pub later : pos 0 ≤ℤ x
  pub first : pos 0 <ℤ e
  pub middle : pos 0 <ℤ d
  pub last : pos 0 <ℤ y
  pub after : (m *ℤ d) <ℤ (n *ℤ e)
  pub until : (n *ℤ y) <ℤ (x *ℤ d)

-- where P holds at two instants it holds at each between
pub record IsConvex (P : ℤ → ℤ → Type 0) : Type 0 where
  pub between : (m e n d x y : ℤ) → AreInOrder m e n d x y → P m e → P x y → P n d

-- ---- the cone

-- two vectors that are each shorter than a width: their product is at most that of the widths
cone_is : (p q w r s v : ℤ) → pos 2 *ℤ (w *ℤ v) *ℤ (w *ℤ v -ℤ p *ℤ r -ℤ q *ℤ s)
    ≡ v *ℤ v *ℤ (w *ℤ w -ℤ p *ℤ p -ℤ q *ℤ q) +ℤ w *ℤ w *ℤ (v *ℤ v -ℤ r *ℤ r -ℤ s *ℤ s) +ℤ (p *ℤ v -ℤ r *ℤ w) *ℤ (p *ℤ v -ℤ r *ℤ w) +ℤ (q *ℤ v -ℤ s *ℤ w) *ℤ (q *ℤ v -ℤ s *ℤ w)
cone_is p q w r s v = simp spread (omega (arith, lin))

four_nonneg : (a b c d : ℤ) → pos 0 ≤ℤ a → pos 0 ≤ℤ b → pos 0 ≤ℤ c → pos 0 ≤ℤ d → pos 0 ≤ℤ (a +ℤ b +ℤ c +ℤ d)
four_nonneg a b c d f g h k = omega (arith, lin)

product_nonneg : (p q w r s v : ℤ) → pos 0 <ℤ w → pos 0 <ℤ v → (p *ℤ p +ℤ q *ℤ q -ℤ w *ℤ w) <ℤ pos 0 → (r *ℤ r +ℤ s *ℤ s -ℤ v *ℤ v) <ℤ pos 0
    → pos 0 ≤ℤ (w *ℤ v -ℤ p *ℤ r -ℤ q *ℤ s)
product_nonneg p q w r s v w+ v+ one other =
    let wv = mul_pos w v w+ v+ in
    let f = mul_nonneg (v *ℤ v) (w *ℤ w -ℤ p *ℤ p -ℤ q *ℤ q) (square_nonneg v) (omega (arith, lin)) in
    let g = mul_nonneg (w *ℤ w) (v *ℤ v -ℤ r *ℤ r -ℤ s *ℤ s) (square_nonneg w) (omega (arith, lin)) in
    nonneg_cancel (pos 2 *ℤ (w *ℤ v)) (w *ℤ v -ℤ p *ℤ r -ℤ q *ℤ s) (omega (arith, lin))
    (rw (cone_is p q w r s v) (four_nonneg _ _ _ _ f g (square_nonneg (p *ℤ v -ℤ r *ℤ w)) (square_nonneg (q *ℤ v -ℤ s *ℤ w))))

-- so their sum is shorter than the sum of the widths
sum_is : (k l p q w r s v : ℤ) → (k *ℤ p +ℤ l *ℤ r) *ℤ (k *ℤ p +ℤ l *ℤ r) +ℤ (k *ℤ q +ℤ l *ℤ s) *ℤ (k *ℤ q +ℤ l *ℤ s) -ℤ (k *ℤ w +ℤ l *ℤ v) *ℤ (k *ℤ w +ℤ l *ℤ v)
    ≡ k *ℤ k *ℤ (p *ℤ p +ℤ q *ℤ q -ℤ w *ℤ w) +ℤ l *ℤ l *ℤ (r *ℤ r +ℤ s *ℤ s -ℤ v *ℤ v) -ℤ pos 2 *ℤ (k *ℤ l *ℤ (w *ℤ v -ℤ p *ℤ r -ℤ q *ℤ s))
sum_is k l p q w r s v = simp spread (omega (arith, lin))

three_below : (a b c : ℤ) → a <ℤ pos 0 → b <ℤ pos 0 → pos 0 ≤ℤ c → (a +ℤ b -ℤ pos 2 *ℤ c) <ℤ pos 0
three_below a b c f g h = omega (arith, lin)

sum_below : (k l p q w r s v : ℤ) → pos 0 <ℤ k → pos 0 <ℤ l → pos 0 <ℤ w → pos 0 <ℤ v → (p *ℤ p +ℤ q *ℤ q -ℤ w *ℤ w) <ℤ pos 0 → (r *ℤ r +ℤ s *ℤ s -ℤ v *ℤ v) <ℤ pos 0
    → ((k *ℤ p +ℤ l *ℤ r) *ℤ (k *ℤ p +ℤ l *ℤ r) +ℤ (k *ℤ q +ℤ l *ℤ s) *ℤ (k *ℤ q +ℤ l *ℤ s) -ℤ (k *ℤ w +ℤ l *ℤ v) *ℤ (k *ℤ w +ℤ l *ℤ v)) <ℤ pos 0
sum_below k l p q w r s v k+ l+ w+ v+ one other =
    rw (sum_is k l p q w r s v)
    (three_below _ _ _ (times_below (k *ℤ k) _ (mul_pos k k k+ k+) one) (times_below (l *ℤ l) _ (mul_pos l l l+ l+) other)
    (mul_nonneg (k *ℤ l) _ (weaken (mul_pos k l k+ l+)) (product_nonneg p q w r s v w+ v+ one other)))

-- ---- what is linear in time

-- a value between, from those at the two ends
mixed : (z g m e n d x y : ℤ) → (x *ℤ e -ℤ m *ℤ y) *ℤ (z *ℤ d +ℤ g *ℤ n) ≡ (x *ℤ d -ℤ n *ℤ y) *ℤ (z *ℤ e +ℤ g *ℤ m) +ℤ (n *ℤ e -ℤ m *ℤ d) *ℤ (z *ℤ y +ℤ g *ℤ x)
mixed z g m e n d x y = simp spread (omega (arith, lin))

square_is : (o g : Offset) (n d : ℤ) → value (square_over_time o g).a (square_over_time o g).b (square_over_time o g).c n d
    ≡ (o.x *ℤ d +ℤ g.x *ℤ n) *ℤ (o.x *ℤ d +ℤ g.x *ℤ n) +ℤ (o.y *ℤ d +ℤ g.y *ℤ n) *ℤ (o.y *ℤ d +ℤ g.y *ℤ n) -ℤ (o.width *ℤ d +ℤ g.width *ℤ n) *ℤ (o.width *ℤ d +ℤ g.width *ℤ n)
square_is o g n d = simp spread (omega (arith, lin))

times_square : (k x y w : ℤ) → k *ℤ k *ℤ (x *ℤ x +ℤ y *ℤ y -ℤ w *ℤ w) ≡ (k *ℤ x) *ℤ (k *ℤ x) +ℤ (k *ℤ y) *ℤ (k *ℤ y) -ℤ (k *ℤ w) *ℤ (k *ℤ w)
times_square k x y w = simp spread (omega (arith, lin))

-- a width that is positive at the start and doesn't shrink
width_positive : (w g n d : ℤ) → pos 0 <ℤ w → pos 0 ≤ℤ g → pos 0 ≤ℤ n → pos 0 <ℤ d → pos 0 <ℤ (w *ℤ d +ℤ g *ℤ n)
width_positive w g n d w+ g+ n+ d+ =
    let p = mul_pos w d w+ d+ in
    let q = mul_nonneg g n g+ n+ in
    omega (arith, lin)

record Shares (m e n d x y : ℤ) : Type 0 where
  first : pos 0 <ℤ (x *ℤ d -ℤ n *ℤ y)
  last : pos 0 <ℤ (n *ℤ e -ℤ m *ℤ d)
  all : pos 0 <ℤ (x *ℤ e -ℤ m *ℤ y)

shares : (m e n d x y : ℤ) → AreInOrder m e n d x y → Shares m e n d x y
shares m e n d x y are =
    let h = before_trans m e n d x y are.first are.middle are.last are.after are.until in
    record {
      first = let u = are.until in omega (arith, lin);
      last = let a = are.after in omega (arith, lin);
      all = omega (arith, lin);
    }

gap_between : (o g : Offset) (m e n d x y : ℤ) → pos 0 <ℤ o.width → pos 0 ≤ℤ g.width → AreInOrder m e n d x y
    → value (square_over_time o g).a (square_over_time o g).b (square_over_time o g).c m e <ℤ pos 0
    → value (square_over_time o g).a (square_over_time o g).b (square_over_time o g).c x y <ℤ pos 0
    → value (square_over_time o g).a (square_over_time o g).b (square_over_time o g).c n d <ℤ pos 0
gap_between o g m e n d x y w+ g+ are one other =
    let share = shares m e n d x y are in
    let k = x *ℤ e -ℤ m *ℤ y in
    below_cancel (k *ℤ k) _ (mul_pos k k share.all share.all)
    (rw (square_is o g n d, times_square k (o.x *ℤ d +ℤ g.x *ℤ n) (o.y *ℤ d +ℤ g.y *ℤ n) (o.width *ℤ d +ℤ g.width *ℤ n), mixed o.x g.x m e n d x y, mixed o.y g.y m e n d x y, mixed o.width g.width m e n d x y)
    (sum_below _ _ _ _ _ _ _ _ share.first share.last
    (width_positive o.width g.width m e w+ g+ are.begun are.first) (width_positive o.width g.width x y w+ g+ are.later are.last)
    (rw (square_is o g m e) at one) (rw (square_is o g x y) at other)))

line_mixed : (b c m e n d x y : ℤ) → (x *ℤ e -ℤ m *ℤ y) *ℤ line_value b c n d ≡ (x *ℤ d -ℤ n *ℤ y) *ℤ line_value b c m e +ℤ (n *ℤ e -ℤ m *ℤ d) *ℤ line_value b c x y
line_mixed b c m e n d x y = simp spread (omega (arith, lin))

both_below : (a b : ℤ) → a <ℤ pos 0 → b <ℤ pos 0 → (a +ℤ b) <ℤ pos 0
both_below a b f g = omega (arith, lin)

line_between : (line : Linear) (m e n d x y : ℤ) → AreInOrder m e n d x y → line_value line.b line.c m e <ℤ pos 0 → line_value line.b line.c x y <ℤ pos 0
    → line_value line.b line.c n d <ℤ pos 0
line_between line m e n d x y are one other =
    let share = shares m e n d x y are in
    below_cancel (x *ℤ e -ℤ m *ℤ y) _ share.all
    (rw (line_mixed line.b line.c m e n d x y)
    (both_below _ _ (times_below _ _ share.first one) (times_below _ _ share.last other)))

-- ---- rows and seconds

width_starts : (rules : Rules) (a b : Row) → AreWithinBounds rules → IsBoundedRow a → IsBoundedRow b → pos 0 <ℤ (offset_of rules a b).width
width_starts rules a b rules_kept a_kept b_kept =
    let s = rules_kept.sh.least in
    let h = a_kept.r.value.least in
    let k = b_kept.r.value.least in
    omega (arith, lin)

width_grows : (a b : Row) → IsBoundedRow a → IsBoundedRow b → pos 0 ≤ℤ (gain_of a b).width
width_grows a b a_kept b_kept =
    let h = a_kept.r.growth.least in
    let k = b_kept.r.growth.least in
    omega (arith, lin)

-- two rows that keep their gains: being nearer than the horizontal minimum, with two lines below 0, is convex
pub below_is_convex : (rules : Rules) (a b : Row) (over under : Linear) → AreWithinBounds rules → IsBoundedRow a → IsBoundedRow b
    → IsConvex (AreBelowAt (gap_of rules a b) over under)
below_is_convex rules a b over under rules_kept a_kept b_kept = record {
  between = λ m e n d x y are one other. record {
    gap_is = gap_between (offset_of rules a b) (gain_of a b) m e n d x y (width_starts rules a b rules_kept a_kept b_kept) (width_grows a b a_kept b_kept) are one.gap_is other.gap_is;
    over_is = line_between over m e n d x y are one.over_is other.over_is;
    under_is = line_between under m e n d x y are one.under_is other.under_is;
  };
}

-- an instant of second k, counted from second 0, and the start of a later second or of that one
instant_begun : (k : ℕ) (n d : ℤ) → pos 0 ≤ℤ n → n <ℤ d → pos 0 ≤ℤ (n +ℤ pos k *ℤ d)
instant_begun k n d begun within =
    let p = mul_nonneg (pos k) d (omega (arith, ints)) (omega (arith, lin)) in
    omega (arith, lin, p)

instant_before : (k m : ℕ) (n d : ℤ) → k < m → n <ℤ d → pos 0 ≤ℤ n → ((n +ℤ pos k *ℤ d) *ℤ pos 1) <ℤ (pos m *ℤ d)
instant_before k m n d less within begun =
    let p = mul_nonneg (pos m -ℤ pos k -ℤ pos 1) d (omega (arith, ints)) (omega (arith, lin)) in
    simp spread (omega (arith, lin, simp spread at p))

instant_after : (k m : ℕ) (n d : ℤ) → m < k → n <ℤ d → pos 0 ≤ℤ n → (pos m *ℤ d) <ℤ ((n +ℤ pos k *ℤ d) *ℤ pos 1)
instant_after k m n d more within begun =
    let p = mul_nonneg (pos k -ℤ pos m -ℤ pos 1) d (omega (arith, ints)) (omega (arith, lin)) in
    simp spread (omega (arith, lin, simp spread at p))

start_between : (P : ℤ → ℤ → Type 0) → IsConvex P → (first k last : ℕ) → first < k → k < last → HoldsIn P first → HoldsIn P last → HoldsIn P k
start_between P convex first k last less more one other =
    let there = convex.between (one.n +ℤ pos first *ℤ one.d) one.d (pos k) (pos 1) (other.n +ℤ pos last *ℤ other.d) other.d
    (record {
      begun = instant_begun first one.n one.d one.begun one.within;
      later = instant_begun last other.n other.d other.begun other.within;
      first = let b = one.begun in let w = one.within in omega (arith, lin);
      middle = omega (arith, ints);
      last = let b = other.begun in let w = other.within in omega (arith, lin);
      after = instant_before first k one.n one.d less one.within one.begun;
      until = instant_after last k other.n other.d more other.within other.begun;
    }) one.holds other.holds in
    record {
      n = pos 0;
      d = pos 1;
      begun = omega (arith, ints);
      within = omega (arith, ints);
      holds = subst (λ (x : ℤ). P x (pos 1)) (omega (arith, ints)) there;
    }

-- so the seconds at some instant of which it holds have none without it between
pub seconds_between : (P : ℤ → ℤ → Type 0) → IsConvex P → (first k last : ℕ) → first ≤ k → k ≤ last → HoldsIn P first → HoldsIn P last → HoldsIn P k
seconds_between P convex first k last begun ends one other = ⊎_elim
    (λ less. ⊎_elim (λ more. start_between P convex first k last less more one other) (λ same. subst (HoldsIn P) (omega arith) other) (cases_lt k last))
    (λ same. subst (HoldsIn P) (omega arith) one)
    (cases_lt first k)
