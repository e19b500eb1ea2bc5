-- Signs of products, and factors that go out of an order.
use Rattle.std.proofs.Common.{◌⊎◌, inl, inr, ⊎_elim, ℤ, pos, negsuc, ◌-ℤ◌, ◌+ℤ◌, ◌*ℤ◌, neg_ℤ, ◌≤ℤ◌, ◌<ℤ◌, arith, zero, suc}
use Rattle.std.proofs.lemmas.Int.{ints}
use Rattle.mt_ring.proofs.Ring.{lin, spread}

-- the sign of a product from those of its factors
pub mul_nonneg : (a b : ℤ) → pos 0 ≤ℤ a → pos 0 ≤ℤ b → pos 0 ≤ℤ (a *ℤ b)
mul_nonneg (pos a) (pos b) h k = omega (arith, ints)
mul_nonneg (pos a) (negsuc b) h k = omega (arith, ints)
mul_nonneg (negsuc a) b h k = omega (arith, ints)

pub mul_pos : (a b : ℤ) → pos 0 <ℤ a → pos 0 <ℤ b → pos 0 <ℤ (a *ℤ b)
mul_pos (pos (suc a)) (pos (suc b)) h k = omega (arith, ints)
mul_pos (pos zero) (pos b) h k = omega (arith, ints)
mul_pos (pos (suc a)) (pos zero) h k = omega (arith, ints)
mul_pos (pos a) (negsuc b) h k = omega (arith, ints)
mul_pos (negsuc a) b h k = omega (arith, ints)

pub square_nonneg : (a : ℤ) → pos 0 ≤ℤ (a *ℤ a)
square_nonneg (pos a) = omega (arith, ints)
square_nonneg (negsuc a) = omega (arith, ints)

-- orders
pub weaken : {a b : ℤ} → a <ℤ b → a ≤ℤ b
weaken {a} {b} h = omega (arith, lin)

pub cases_ℤ : (a : ℤ) → (a <ℤ pos 0) ⊎ (pos 0 ≤ℤ a)
cases_ℤ (pos a) = inr (omega (arith, ints))
cases_ℤ (negsuc a) = inl (omega (arith, ints))

pub cases_lt : (a b : ℤ) → (a <ℤ b) ⊎ (b ≤ℤ a)
cases_lt a b = ⊎_elim (λ h. inl (omega (arith, lin))) (λ h. inr (omega (arith, lin))) (cases_ℤ (a -ℤ b))

pub contrary : (a : ℤ) → pos 0 ≤ℤ a → a <ℤ pos 0 → ⊥
contrary a h k = omega (arith, lin)

-- sums and negations
pub sum_nonneg : (a b : ℤ) → pos 0 ≤ℤ a → pos 0 ≤ℤ b → pos 0 ≤ℤ (a +ℤ b)
sum_nonneg a b h k = omega (arith, lin)

pub sum_below : (a b : ℤ) → a <ℤ pos 0 → b ≤ℤ pos 0 → (a +ℤ b) <ℤ pos 0
sum_below a b h k = omega (arith, lin)

pub neg_nonneg : (a : ℤ) → a ≤ℤ pos 0 → pos 0 ≤ℤ neg_ℤ a
neg_nonneg a h = omega (arith, lin)

pub neg_below : (a : ℤ) → pos 0 <ℤ a → neg_ℤ a <ℤ pos 0
neg_below a h = omega (arith, lin)

-- a positive factor keeps a sign
pub times_below : (k z : ℤ) → pos 0 <ℤ k → z <ℤ pos 0 → (k *ℤ z) <ℤ pos 0
times_below k z h low = let p = mul_pos k (neg_ℤ z) h (omega (arith, lin)) in omega (arith, lin, simp spread at p)

pub times_not_above : (k z : ℤ) → pos 0 <ℤ k → z ≤ℤ pos 0 → (k *ℤ z) ≤ℤ pos 0
times_not_above k z h low = let p = mul_nonneg k (neg_ℤ z) (weaken h) (omega (arith, lin)) in omega (arith, lin, simp spread at p)

-- a positive factor goes out
pub nonneg_cancel : (k x : ℤ) → pos 0 <ℤ k → pos 0 ≤ℤ (k *ℤ x) → pos 0 ≤ℤ x
nonneg_cancel k (pos x) h p = omega (arith, ints)
nonneg_cancel k (negsuc x) h p = let q = mul_pos k (pos (suc x)) h (omega (arith, ints)) in omega (arith, ints, p, q)

pub below_cancel : (k x : ℤ) → pos 0 <ℤ k → (k *ℤ x) <ℤ pos 0 → x <ℤ pos 0
below_cancel k (negsuc x) h p = omega (arith, ints)
below_cancel k (pos x) h p =
    let q = mul_nonneg k (pos x) (omega (arith, ints)) (omega (arith, ints)) in
    omega (arith, ints, p, q)
