-- Where a convex quadratic or a line is not below 0 at an instant, it is below 0 only on the side to which it falls. So where all are below 0 at
-- some instant, their values at one other instant tell on which side of that the first and the last such instant lie.
use borrow.Author.Differences.{true_is_le, true_is_lt}
use lib.Signed.{le_z, lt_z}
use Rattle.std.proofs.Common.{◌≡◌, ◌↔◌, IsTrue, true, false, sym, true≢false, ◌∙◌, ℕ, zero, suc, ◌<◌, ◌≤◌, ℤ, pos, neg_ℤ, ◌+ℤ◌, ◌-ℤ◌, ◌*ℤ◌, ◌≤ℤ◌, ◌<ℤ◌, ◌⊎◌, ⊎_elim, inl, inr, arith, subst, le_refl}
use Rattle.std.proofs.lemmas.Bool.{cases_lt}
use Rattle.std.proofs.lemmas.Int.{ints}
use Rattle.mt_ring.proofs.Ring.{lin, spread}
use Rattle.mt_ring.proofs.Signs.{cases_ℤ, mul_nonneg, square_nonneg, weaken}
use Rattle.mt_frac.specs.declared.linear.Linear.{Linear}
use Rattle.mt_frac.specs.declared.quadratic.Quad.{Quad}
use Rattle.mt_frac.specs.Polynomials.{value, line_value, slope}
use Rattle.mt_frac.specs.Instants.{HoldsIn}
use Rattle.mt_track.specs.Seconds.{HasSome}
use Rattle.mt_pair.specs.Private.Below.{AreBelowAt}
use Rattle.mt_pair.specs.Private.Turning.{IsFalling, IsSooner}
use Rattle.mt_pair.proofs.Instants.{are_open}
use Rattle.mt_frac.proofs.Seconds.{after_start, before_end}

-- a value at n/d, from that at m: with the slope there, and what is convex
gap_from : (a b c m n d : ℤ) → value a b c n d
    ≡ a *ℤ ((n -ℤ m *ℤ d) *ℤ (n -ℤ m *ℤ d)) +ℤ slope a b m (pos 1) *ℤ ((n -ℤ m *ℤ d) *ℤ d) +ℤ value a b c m (pos 1) *ℤ (d *ℤ d)
gap_from a b c m n d = simp spread (omega (arith, lin))

line_from : (b c m n d : ℤ) → line_value b c n d ≡ b *ℤ (n -ℤ m *ℤ d) +ℤ line_value b c m (pos 1) *ℤ d
line_from b c m n d = simp spread (omega (arith, lin))

gap_until : (a b c m n d : ℤ) → pos 0 ≤ℤ a → pos 0 ≤ℤ d → n ≤ℤ (m *ℤ d) → IsFalling (value a b c m (pos 1)) (slope a b m (pos 1)) → pos 0 ≤ℤ value a b c n d
gap_until a b c m n d convex d+ sooner later =
    let e = n -ℤ m *ℤ d in
    let p = mul_nonneg a (e *ℤ e) convex (square_nonneg e) in
    let q = mul_nonneg (neg_ℤ (slope a b m (pos 1))) (neg_ℤ (e *ℤ d)) (let f = later.falls in omega (arith, lin)) (negative_product e d (omega (arith, lin)) d+) in
    let r = mul_nonneg (value a b c m (pos 1)) (d *ℤ d) later.here (square_nonneg d) in
    rw (gap_from a b c m n d) (all_three (a *ℤ (e *ℤ e)) (slope a b m (pos 1)) (e *ℤ d) (value a b c m (pos 1) *ℤ (d *ℤ d)) p q r) where
      negative_product : (e d : ℤ) → e ≤ℤ pos 0 → pos 0 ≤ℤ d → pos 0 ≤ℤ neg_ℤ (e *ℤ d)
      negative_product e d low high = let p = mul_nonneg (neg_ℤ e) d (omega (arith, lin)) high in omega (arith, lin, simp spread at p)

      all_three : (x s y z : ℤ) → pos 0 ≤ℤ x → pos 0 ≤ℤ (neg_ℤ s *ℤ neg_ℤ y) → pos 0 ≤ℤ z → pos 0 ≤ℤ (x +ℤ s *ℤ y +ℤ z)
      all_three x s y z f g h = omega (arith, lin, f, simp spread at g, h)

gap_since : (a b c m n d : ℤ) → pos 0 ≤ℤ a → pos 0 ≤ℤ d → (m *ℤ d) ≤ℤ n → IsSooner (value a b c m (pos 1)) (slope a b m (pos 1)) → pos 0 ≤ℤ value a b c n d
gap_since a b c m n d convex d+ later sooner =
    let e = n -ℤ m *ℤ d in
    let p = mul_nonneg a (e *ℤ e) convex (square_nonneg e) in
    let q = mul_nonneg (slope a b m (pos 1)) (e *ℤ d) sooner.rises (mul_nonneg e d (omega (arith, lin)) d+) in
    let r = mul_nonneg (value a b c m (pos 1)) (d *ℤ d) sooner.here (square_nonneg d) in
    rw (gap_from a b c m n d) (sum_three (a *ℤ (e *ℤ e)) (slope a b m (pos 1) *ℤ (e *ℤ d)) (value a b c m (pos 1) *ℤ (d *ℤ d)) p q r) where
      sum_three : (x y z : ℤ) → pos 0 ≤ℤ x → pos 0 ≤ℤ y → pos 0 ≤ℤ z → pos 0 ≤ℤ (x +ℤ y +ℤ z)
      sum_three x y z f g h = omega (arith, lin)

line_until : (b c m n d : ℤ) → pos 0 ≤ℤ d → n ≤ℤ (m *ℤ d) → IsFalling (line_value b c m (pos 1)) b → pos 0 ≤ℤ line_value b c n d
line_until b c m n d d+ sooner later =
    let p = mul_nonneg (neg_ℤ b) (m *ℤ d -ℤ n) (let f = later.falls in omega (arith, lin)) (omega (arith, lin)) in
    let q = mul_nonneg (line_value b c m (pos 1)) d later.here d+ in
    rw (line_from b c m n d) (simp spread (omega (arith, lin, simp spread at p, simp spread at q)))

line_since : (b c m n d : ℤ) → pos 0 ≤ℤ d → (m *ℤ d) ≤ℤ n → IsSooner (line_value b c m (pos 1)) b → pos 0 ≤ℤ line_value b c n d
line_since b c m n d d+ later sooner =
    let p = mul_nonneg b (n -ℤ m *ℤ d) sooner.rises (omega (arith, lin)) in
    let q = mul_nonneg (line_value b c m (pos 1)) d sooner.here d+ in
    rw (line_from b c m n d) (simp spread (omega (arith, lin, simp spread at p, simp spread at q)))

-- an instant of a second before the start of second m, and of second m or a later one
early : (m k : ℕ) (n d : ℤ) → k < m → pos 0 ≤ℤ n → n <ℤ d → (n +ℤ pos k *ℤ d) ≤ℤ (pos m *ℤ d)
early m k n d less begun within =
    let h = before_end (pos m) (pos k) n d (omega (arith, ints)) within (omega (arith, lin)) in
    weaken (subst (λ (x : ℤ). x <ℤ (pos m *ℤ d)) (simp spread (omega (arith, lin))) h)

late : (m k : ℕ) (n d : ℤ) → m ≤ k → pos 0 ≤ℤ n → n <ℤ d → (pos m *ℤ d) ≤ℤ (n +ℤ pos k *ℤ d)
late m k n d more begun within =
    let h = after_start (pos m) (pos k) n d (omega (arith, ints)) begun (omega (arith, lin)) in
    subst (λ (x : ℤ). (pos m *ℤ d) ≤ℤ x) (simp spread (omega (arith, lin))) h

-- nothing before, and nothing from there on
contradicts : (z : ℤ) → pos 0 ≤ℤ z → z <ℤ pos 0 → ⊥
contradicts z h k = omega (arith, lin)

pub none_before_gap : (gap : Quad) (over under : Linear) (low m : ℕ) → pos 0 ≤ℤ gap.a → IsFalling (value gap.a gap.b gap.c (pos m) (pos 1)) (slope gap.a gap.b (pos m) (pos 1))
    → ¬ HasSome (HoldsIn (AreBelowAt gap over under)) low m
none_before_gap gap over under low m convex later some =
    let at = some.holds in
    contradicts _ (gap_until gap.a gap.b gap.c (pos m) _ at.d convex (omega (arith, lin, at.begun, at.within)) (early m some.k at.n at.d some.ahead at.begun at.within) later)
    at.holds.gap_is

pub none_before_over : (gap : Quad) (over under : Linear) (low m : ℕ) → IsFalling (line_value over.b over.c (pos m) (pos 1)) over.b → ¬ HasSome (HoldsIn (AreBelowAt gap over under)) low m
none_before_over gap over under low m later some =
    let at = some.holds in
    contradicts _ (line_until over.b over.c (pos m) _ at.d (omega (arith, lin, at.begun, at.within)) (early m some.k at.n at.d some.ahead at.begun at.within) later)
    at.holds.over_is

pub none_before_under : (gap : Quad) (over under : Linear) (low m : ℕ) → IsFalling (line_value under.b under.c (pos m) (pos 1)) under.b → ¬ HasSome (HoldsIn (AreBelowAt gap over under)) low m
none_before_under gap over under low m later some =
    let at = some.holds in
    contradicts _ (line_until under.b under.c (pos m) _ at.d (omega (arith, lin, at.begun, at.within)) (early m some.k at.n at.d some.ahead at.begun at.within) later)
    at.holds.under_is

pub none_from_gap : (gap : Quad) (over under : Linear) (m high : ℕ) → pos 0 ≤ℤ gap.a → IsSooner (value gap.a gap.b gap.c (pos m) (pos 1)) (slope gap.a gap.b (pos m) (pos 1))
    → ¬ HasSome (HoldsIn (AreBelowAt gap over under)) m high
none_from_gap gap over under m high convex sooner some =
    let at = some.holds in
    contradicts _ (gap_since gap.a gap.b gap.c (pos m) _ at.d convex (omega (arith, lin, at.begun, at.within)) (late m some.k at.n at.d some.begun at.begun at.within) sooner)
    at.holds.gap_is

pub none_from_over : (gap : Quad) (over under : Linear) (m high : ℕ) → IsSooner (line_value over.b over.c (pos m) (pos 1)) over.b → ¬ HasSome (HoldsIn (AreBelowAt gap over under)) m high
none_from_over gap over under m high sooner some =
    let at = some.holds in
    contradicts _ (line_since over.b over.c (pos m) _ at.d (omega (arith, lin, at.begun, at.within)) (late m some.k at.n at.d some.begun at.begun at.within) sooner)
    at.holds.over_is

pub none_from_under : (gap : Quad) (over under : Linear) (m high : ℕ) → IsSooner (line_value under.b under.c (pos m) (pos 1)) under.b → ¬ HasSome (HoldsIn (AreBelowAt gap over under)) m high
none_from_under gap over under m high sooner some =
    let at = some.holds in
    contradicts _ (line_since under.b under.c (pos m) _ at.d (omega (arith, lin, at.begun, at.within)) (late m some.k at.n at.d some.begun at.begun at.within) sooner)
    at.holds.under_is

-- a value is below 0, or not; and then it falls or not
below_or_sooner : (z s : ℤ) → ¬ IsFalling z s → (z <ℤ pos 0) ⊎ IsSooner z s
below_or_sooner z s not_later = ⊎_elim
    (λ low. inl low)
    (λ here. ⊎_elim (λ falls. absurd (not_later (record { here = here; falls = falls }))) (λ rises. inr (record { here = here; rises = rises })) (cases_ℤ s))
    (cases_ℤ z)

below_or_later : (z s : ℤ) → ¬ IsSooner z s → (z <ℤ pos 0) ⊎ IsFalling z s
below_or_later z s not_sooner = ⊎_elim
    (λ low. inl low)
    (λ here. ⊎_elim (λ falls. inr (record { here = here; falls = falls })) (λ rises. absurd (not_sooner (record { here = here; rises = rises }))) (cases_ℤ s))
    (cases_ℤ z)

-- at the start of second m all are below 0: then so they are in second m, and in the one before
in_second : (gap : Quad) (over under : Linear) (m : ℕ) → AreBelowAt gap over under (pos m) (pos 1) → HoldsIn (AreBelowAt gap over under) m
in_second gap over under m at = record {
  n = pos 0;
  d = pos 1;
  begun = omega (arith, ints);
  within = omega (arith, ints);
  holds = subst (λ (x : ℤ). AreBelowAt gap over under x (pos 1)) (omega (arith, ints)) at;
}

before_second : (gap : Quad) (over under : Linear) (m : ℕ) → AreBelowAt gap over under (pos (suc m)) (pos 1) → HoldsIn (AreBelowAt gap over under) m
before_second gap over under m at =
    let near = (are_open gap over under).near (pos (suc m)) (pos 1) (pos m) (pos 1) at in
    let k = pos (suc near.from) in
    let there = near.holds k (omega (arith, ints)) in
    let num : k *ℤ pos (suc m) +ℤ pos m ≡ k +ℤ pos m *ℤ (k *ℤ pos 1 +ℤ pos 1) = number_is k (pos (suc m)) (pos m) (omega (arith, ints)) in
    record {
      n = k;
      d = k *ℤ pos 1 +ℤ pos 1;
      begun = omega (arith, ints);
      within = omega (arith, ints);
      holds = subst (λ (x : ℤ). AreBelowAt gap over under x (k *ℤ pos 1 +ℤ pos 1)) num there;
    } where
      number_is : (k l m : ℤ) → l ≡ m +ℤ pos 1 → k *ℤ l +ℤ m ≡ k +ℤ m *ℤ (k *ℤ pos 1 +ℤ pos 1)
      number_is k l m e = rw e (simp spread (omega (arith, lin)))

-- the three values at the start of second m
pub record AreNone (P : ℤ → ℤ → Type 0) (gap : Quad) (over under : Linear) (m : ℕ) : Type 0 where
  pub gap_is : ¬ P (value gap.a gap.b gap.c (pos m) (pos 1)) (slope gap.a gap.b (pos m) (pos 1))
  pub over_is : ¬ P (line_value over.b over.c (pos m) (pos 1)) over.b
  pub under_is : ¬ P (line_value under.b under.c (pos m) (pos 1)) under.b

pub some_before : (gap : Quad) (over under : Linear) (low high m : ℕ) → pos 0 ≤ℤ gap.a → low < m → AreNone IsFalling gap over under m → HasSome (HoldsIn (AreBelowAt gap over under)) low high
    → HasSome (HoldsIn (AreBelowAt gap over under)) low m
some_before gap over under low high zero convex less none some = absurd (omega arith)
some_before gap over under low high (suc m) convex less none some = ⊎_elim
    (λ sooner. record { k = some.k; begun = some.begun; ahead = sooner; holds = some.holds })
    (λ later.
    let at = some.holds in
    let d+ : pos 0 ≤ℤ at.d = omega (arith, lin, at.begun, at.within) in
    let place = late (suc m) some.k at.n at.d later at.begun at.within in
    let g : value gap.a gap.b gap.c (pos (suc m)) (pos 1) <ℤ pos 0 = ⊎_elim (λ h. h)
    (λ h. absurd (contradicts _ (gap_since gap.a gap.b gap.c (pos (suc m)) _ at.d convex d+ place h) at.holds.gap_is)) (below_or_sooner _ _ none.gap_is) in
    let o : line_value over.b over.c (pos (suc m)) (pos 1) <ℤ pos 0 = ⊎_elim (λ h. h)
    (λ h. absurd (contradicts _ (line_since over.b over.c (pos (suc m)) _ at.d d+ place h) at.holds.over_is)) (below_or_sooner _ _ none.over_is) in
    let u : line_value under.b under.c (pos (suc m)) (pos 1) <ℤ pos 0 = ⊎_elim (λ h. h)
    (λ h. absurd (contradicts _ (line_since under.b under.c (pos (suc m)) _ at.d d+ place h) at.holds.under_is)) (below_or_sooner _ _ none.under_is) in
    record { k = m; begun = omega (arith, less); ahead = omega arith; holds = before_second gap over under m (record { gap_is = g; over_is = o; under_is = u }) })
    (cases_lt some.k (suc m))

pub some_since : (gap : Quad) (over under : Linear) (low high m : ℕ) → pos 0 ≤ℤ gap.a → m < high → AreNone IsSooner gap over under m → HasSome (HoldsIn (AreBelowAt gap over under)) low high
    → HasSome (HoldsIn (AreBelowAt gap over under)) m high
some_since gap over under low high m convex less none some = ⊎_elim
    (λ sooner.
    let at = some.holds in
    let d+ : pos 0 ≤ℤ at.d = omega (arith, lin, at.begun, at.within) in
    let place = early m some.k at.n at.d sooner at.begun at.within in
    let g : value gap.a gap.b gap.c (pos m) (pos 1) <ℤ pos 0 = ⊎_elim (λ h. h)
    (λ h. absurd (contradicts _ (gap_until gap.a gap.b gap.c (pos m) _ at.d convex d+ place h) at.holds.gap_is)) (below_or_later _ _ none.gap_is) in
    let o : line_value over.b over.c (pos m) (pos 1) <ℤ pos 0 = ⊎_elim (λ h. h)
    (λ h. absurd (contradicts _ (line_until over.b over.c (pos m) _ at.d d+ place h) at.holds.over_is)) (below_or_later _ _ none.over_is) in
    let u : line_value under.b under.c (pos m) (pos 1) <ℤ pos 0 = ⊎_elim (λ h. h)
    (λ h. absurd (contradicts _ (line_until under.b under.c (pos m) _ at.d d+ place h) at.holds.under_is)) (below_or_later _ _ none.under_is) in
    record { k = m; begun = le_refl m; ahead = less; holds = in_second gap over under m (record { gap_is = g; over_is = o; under_is = u }) })
    (λ later. record { k = some.k; begun = later; ahead = some.ahead; holds = some.holds })
    (cases_lt some.k m)

-- what the tests of a value and of a slope tell
pub sooner_by : (value slope : ℤ) → le_z (pos 0) value ≡ true → IsTrue (le_z (pos 0) slope) ↔ IsSooner value slope
sooner_by value slope here = (
  (λ t. record { here = omega (arith, ints, here); rises = omega (arith, ints, t) }),
  (λ at. sym (true_is_le (pos 0) slope (let rises = at.rises in omega (arith, ints)))),
)

pub falling_by : (value slope : ℤ) → le_z (pos 0) value ≡ true → IsTrue (lt_z slope (pos 0)) ↔ IsFalling value slope
falling_by value slope here = (
  (λ t. record { here = omega (arith, ints, here); falls = omega (arith, ints, t) }),
  (λ at. sym (true_is_lt slope (pos 0) (let falls = at.falls in omega (arith, ints)))),
)

pub not_sooner : (value slope : ℤ) → le_z (pos 0) value ≡ false → IsTrue (le_z (pos 0) value) ↔ IsSooner value slope
not_sooner value slope below = ((λ t. absurd (true≢false (sym t ∙ below))), (λ at. absurd (let here = at.here in omega (arith, ints, below))))

pub not_falling : (value slope : ℤ) → le_z (pos 0) value ≡ false → IsTrue (le_z (pos 0) value) ↔ IsFalling value slope
not_falling value slope below = ((λ t. absurd (true≢false (sym t ∙ below))), (λ at. absurd (let here = at.here in omega (arith, ints, below))))
