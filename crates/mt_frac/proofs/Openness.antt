-- What is below 0 at a fraction is below 0 near it. So a half-open stretch holds an instant at which some quadratics and lines
-- are all below 0 exactly where it holds a fraction strictly inside at which they are (`half_open`).
-- Conditions on a fraction n/d are functions P of n and d.
use Rattle.std.proofs.Common.{◌≡◌, ◌⊎◌, inl, inr, ⊎_elim, ℕ, ◌+◌, ℤ, pos, negsuc, ◌+ℤ◌, ◌-ℤ◌, ◌*ℤ◌, neg_ℤ, ◌≤ℤ◌, ◌<ℤ◌, unsigned_abs, ◌↔◌, arith}
use Rattle.std.proofs.lemmas.Int.{ints}
use Rattle.mt_ring.proofs.Ring.{lin, spread}
use Rattle.mt_ring.proofs.Signs.{mul_nonneg, mul_pos, square_nonneg, weaken}
use Rattle.mt_frac.specs.Polynomials.{value, line_value}
use Rattle.mt_frac.proofs.Fractions.{at_most_trans}

-- P holds at the fractions (k m + x)/(k e + y) from some k on: these go from x/y towards m/e
pub record HoldsNear (P : ℤ → ℤ → Type 0) (m e x y : ℤ) : Type 0 where
  pub from : ℕ
  pub holds : (k : ℤ) → pos from <ℤ k → P (k *ℤ m +ℤ x) (k *ℤ e +ℤ y)

-- wherever P holds it holds near
pub record IsOpen (P : ℤ → ℤ → Type 0) : Type 0 where
  pub near : (m e x y : ℤ) → P m e → HoldsNear P m e x y

-- P holds at some fraction strictly between m/e and x/y
pub record HoldsInside (P : ℤ → ℤ → Type 0) (m e x y : ℤ) : Type 0 where
  pub n : ℤ
  pub d : ℤ
  pub positive : pos 0 <ℤ d
  pub after : (m *ℤ d) <ℤ (n *ℤ e)
  pub until : (n *ℤ y) <ℤ (x *ℤ d)
  pub holds : P n d

-- P holds at some instant of the stretch from m/e to x/y, its start included
pub record HoldsFrom (P : ℤ → ℤ → Type 0) (m e x y : ℤ) : Type 0 where
  pub n : ℤ
  pub d : ℤ
  pub positive : pos 0 <ℤ d
  pub begun : (m *ℤ d) ≤ℤ (n *ℤ e)
  pub until : (n *ℤ y) <ℤ (x *ℤ d)
  pub holds : P n d

at_most_size : (z : ℤ) → z ≤ℤ pos (unsigned_abs z)
at_most_size (pos n) = omega (arith, ints)
at_most_size (negsuc n) = omega (arith, ints)

-- a polynomial in k with a leading coefficient below 0 is below 0 for a great k
far_linear : (p r k : ℤ) (v : ℕ) → p <ℤ pos 0 → r ≤ℤ pos v → pos v <ℤ k → (k *ℤ p +ℤ r) <ℤ pos 0
far_linear p r k v p- hr h =
    let q = mul_nonneg k (neg_ℤ p -ℤ pos 1) (omega (arith, lin)) (omega (arith, lin)) in
    simp spread (omega (arith, lin, simp spread at q))

far_square : (p b r k : ℤ) (u v : ℕ) → p <ℤ pos 0 → b ≤ℤ pos u → r ≤ℤ pos v → (pos u +ℤ pos v) <ℤ k → (k *ℤ k *ℤ p +ℤ k *ℤ b +ℤ r) <ℤ pos 0
far_square p b r k u v p- hb hr h =
    let q1 = mul_nonneg (k *ℤ k) (neg_ℤ p -ℤ pos 1) (square_nonneg k) (omega (arith, lin)) in
    let q2 = mul_nonneg k (pos u -ℤ b) (omega (arith, lin)) (omega (arith, lin)) in
    let q3 = mul_nonneg k (k -ℤ pos u -ℤ pos v -ℤ pos 1) (omega (arith, lin)) (omega (arith, lin)) in
    let q4 = mul_nonneg (k -ℤ pos 1) (pos v) (omega (arith, lin)) (omega (arith, lin)) in
    simp spread (omega (arith, lin, simp spread at q1, simp spread at q2, simp spread at q3, simp spread at q4))

value_near : (a b c k m e x y : ℤ) → value a b c (k *ℤ m +ℤ x) (k *ℤ e +ℤ y) ≡ k *ℤ k *ℤ value a b c m e +ℤ k *ℤ (pos 2 *ℤ a *ℤ m *ℤ x +ℤ b *ℤ (m *ℤ y +ℤ x *ℤ e) +ℤ pos 2 *ℤ c *ℤ e *ℤ y) +ℤ value a b c x y
value_near a b c k m e x y = simp spread (omega (arith, lin))

line_near : (b c k m e x y : ℤ) → line_value b c (k *ℤ m +ℤ x) (k *ℤ e +ℤ y) ≡ k *ℤ line_value b c m e +ℤ line_value b c x y
line_near b c k m e x y = simp spread (omega (arith, lin))

-- that a quadratic, or a line, is below 0 is open
pub value_is_open : (a b c : ℤ) → IsOpen (λ n d. value a b c n d <ℤ pos 0)
value_is_open a b c = record {
  near = λ m e x y low.
      let middle = pos 2 *ℤ a *ℤ m *ℤ x +ℤ b *ℤ (m *ℤ y +ℤ x *ℤ e) +ℤ pos 2 *ℤ c *ℤ e *ℤ y in
      record {
        from = unsigned_abs middle + unsigned_abs (value a b c x y);
        holds = λ k h. rw (value_near a b c k m e x y) (far_square (value a b c m e) middle (value a b c x y) k _ _ low
            (at_most_size middle) (at_most_size (value a b c x y)) (omega (arith, lin)));
      };
}

pub line_is_open : (b c : ℤ) → IsOpen (λ n d. line_value b c n d <ℤ pos 0)
line_is_open b c = record {
  near = λ m e x y low. record {
    from = unsigned_abs (line_value b c x y);
    holds = λ k h. rw (line_near b c k m e x y) (far_linear (line_value b c m e) (line_value b c x y) k _ low (at_most_size (line_value b c x y)) h);
  };
}

-- two open conditions together, one of two, and another form of an open condition
pub both_open : (P Q : ℤ → ℤ → Type 0) → IsOpen P → IsOpen Q → IsOpen (λ n d. P n d × Q n d)
both_open P Q p q = record {
  near = λ m e x y h.
      let f = p.near m e x y h.0 in
      let g = q.near m e x y h.1 in
      record {
        from = f.from + g.from;
        holds = λ k far. (f.holds k (omega (arith, lin)), g.holds k (omega (arith, lin)));
      };
}

pub either_open : (P Q : ℤ → ℤ → Type 0) → IsOpen P → IsOpen Q → IsOpen (λ n d. P n d ⊎ Q n d)
either_open P Q p q = record {
  near = λ m e x y h. ⊎_elim
      (λ left. let f = p.near m e x y left in record { from = f.from; holds = λ k far. inl (f.holds k far) })
      (λ right. let f = q.near m e x y right in record { from = f.from; holds = λ k far. inr (f.holds k far) })
      h;
}

pub same_open : (P Q : ℤ → ℤ → Type 0) → ((n d : ℤ) → P n d ↔ Q n d) → IsOpen P → IsOpen Q
same_open P Q same p = record {
  near = λ m e x y h.
      let f = p.near m e x y ((same m e).1 h) in
      record { from = f.from; holds = λ k far. (same (k *ℤ m +ℤ x) (k *ℤ e +ℤ y)).0 (f.holds k far) };
}

-- (k m + x)/(k e + y) lies strictly between m/e and x/y
near_after : (k m e x y : ℤ) → (m *ℤ y) <ℤ (x *ℤ e) → (m *ℤ (k *ℤ e +ℤ y)) <ℤ ((k *ℤ m +ℤ x) *ℤ e)
near_after k m e x y h = simp spread (omega (arith, lin, simp spread at h))

near_until : (k m e x y : ℤ) → pos 0 <ℤ k → (m *ℤ y) <ℤ (x *ℤ e) → ((k *ℤ m +ℤ x) *ℤ y) <ℤ (x *ℤ (k *ℤ e +ℤ y))
near_until k m e x y k+ h =
    let p = mul_pos k (x *ℤ e -ℤ m *ℤ y) k+ (omega (arith, lin)) in
    simp spread (omega (arith, lin, simp spread at p))

near_positive : (k e y : ℤ) → pos 0 <ℤ k → pos 0 <ℤ e → pos 0 <ℤ y → pos 0 <ℤ (k *ℤ e +ℤ y)
near_positive k e y k+ e+ y+ = let q = mul_pos k e k+ e+ in omega (arith, lin)

end_after : (k m e x y : ℤ) → pos 0 <ℤ k → (m *ℤ y) <ℤ (x *ℤ e) → (m *ℤ (k *ℤ y +ℤ e)) <ℤ ((k *ℤ x +ℤ m) *ℤ e)
end_after k m e x y k+ h =
    let p = mul_pos k (x *ℤ e -ℤ m *ℤ y) k+ (omega (arith, lin)) in
    simp spread (omega (arith, lin, simp spread at p))

end_until : (k m e x y : ℤ) → (m *ℤ y) <ℤ (x *ℤ e) → ((k *ℤ x +ℤ m) *ℤ y) <ℤ (x *ℤ (k *ℤ y +ℤ e))
end_until k m e x y h = simp spread (omega (arith, lin, simp spread at h))

-- near the lower end, or the upper one, is strictly inside
pub inside_at_start : (P : ℤ → ℤ → Type 0) (m e x y : ℤ) → pos 0 <ℤ e → pos 0 <ℤ y → (m *ℤ y) <ℤ (x *ℤ e) → HoldsNear P m e x y → HoldsInside P m e x y
inside_at_start P m e x y e+ y+ h near =
    let k = pos (near.from + 1) in
    let k+ : pos 0 <ℤ k = omega (arith, ints) in
    record {
      n = k *ℤ m +ℤ x;
      d = k *ℤ e +ℤ y;
      positive = near_positive k e y k+ e+ y+;
      after = near_after k m e x y h;
      until = near_until k m e x y k+ h;
      holds = near.holds k (omega (arith, ints));
    }

pub inside_at_end : (P : ℤ → ℤ → Type 0) (m e x y : ℤ) → pos 0 <ℤ e → pos 0 <ℤ y → (m *ℤ y) <ℤ (x *ℤ e) → HoldsNear P x y m e → HoldsInside P m e x y
inside_at_end P m e x y e+ y+ h near =
    let k = pos (near.from + 1) in
    let k+ : pos 0 <ℤ k = omega (arith, ints) in
    record {
      n = k *ℤ x +ℤ m;
      d = k *ℤ y +ℤ e;
      positive = near_positive k y e k+ y+ e+;
      after = end_after k m e x y k+ h;
      until = end_until k m e x y h;
      holds = near.holds k (omega (arith, ints));
    }

-- an open condition holds at some instant of a half-open stretch exactly where it does at a fraction strictly inside
pub half_open : (P : ℤ → ℤ → Type 0) (m e x y : ℤ) → pos 0 <ℤ e → pos 0 <ℤ y → IsOpen P → HoldsFrom P m e x y ↔ HoldsInside P m e x y
half_open P m e x y e+ y+ open_p = (
  (λ at.
      let some = inside_at_start P at.n at.d x y at.positive y+ at.until (open_p.near at.n at.d x y at.holds) in
      record {
        n = some.n;
        d = some.d;
        positive = some.positive;
        after = at_most_trans m e at.n at.d some.n some.d e+ at.positive some.positive at.begun some.after;
        until = some.until;
        holds = some.holds;
      }),
  (λ some. record {
    n = some.n;
    d = some.d;
    positive = some.positive;
    begun = weaken some.after;
    until = some.until;
    holds = some.holds;
  }),
)
