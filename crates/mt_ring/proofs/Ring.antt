-- The ring laws of ℤ, and two sets of rules that prove with them.
--
-- How to use. `use Rattle.mt_ring.proofs.Ring.{lin, spread}`, and `arith` of `Rattle.std.proofs.Common`.
-- - A ring identity, as (a + b)(a + b) ≡ a a + 2 a b + b b: `simp spread (omega (arith, lin))`.
--   Write numerals as `pos 2` and `neg_ℤ (pos 2)`.
-- - An order of polynomials from products p, q of known sign (`Signs`):
--   `let p = mul_nonneg _ _ h k in simp spread (omega (arith, lin, simp spread at p, simp spread at q))`.
--   Leave out the outer `simp spread` where the goal has no product, and list a fact that has none as it is.
-- - An equation e times a factor k: list `simp spread at (ap (λ (z : ℤ). k *ℤ z) e)`.
-- - Linear facts alone, as an order moved to one side: `omega (arith, lin)`.
-- - With more than some 50 monomials on both sides it gives up: state the identity with a variable for each inner sum.
use Rattle.std.proofs.Common.{◌≡◌, ℕ, ◌*◌, ℤ, pos, ◌+ℤ◌, ◌*ℤ◌, neg_ℤ, arith, ap}
use Rattle.std.proofs.lemmas.Int.{ints}
use lib.IntN.{*ℤ_comm, neg_ℤ-+ℤ, neg_ℤ-neg_ℤ}
use borrow.Author.Differences.{up, down, sum_is_lem, neg_is, product_is, same_in, same_out, lt_out, le_out, below_in, at_most_in, Apart-out}

-- laws of a product with a sum, a negation and another product, which the library doesn't state
pub *ℤ-+ℤ : (a b c : ℤ) → a *ℤ (b +ℤ c) ≡ a *ℤ b +ℤ a *ℤ c
*ℤ-+ℤ a b c = let s = sum_is_lem b c in omega (arith, ints, ap (λ (x : ℕ). up a * x) s, ap (λ (x : ℕ). down a * x) s)

pub +ℤ-*ℤ : (a b c : ℤ) → (b +ℤ c) *ℤ a ≡ b *ℤ a +ℤ c *ℤ a
+ℤ-*ℤ a b c = let s = sum_is_lem b c in omega (arith, ints, ap (λ (x : ℕ). up a * x) s, ap (λ (x : ℕ). down a * x) s)

pub *ℤ-neg_ℤ : (a b : ℤ) → a *ℤ neg_ℤ b ≡ neg_ℤ (a *ℤ b)
*ℤ-neg_ℤ a b =
    let e = neg_is b in
    omega (
      arith,
      ints,
      ap (λ (x : ℕ). up a * x) e.0,
      ap (λ (x : ℕ). down a * x) e.0,
      ap (λ (x : ℕ). up a * x) e.1,
      ap (λ (x : ℕ). down a * x) e.1,
    )

pub neg_ℤ-*ℤ : (a b : ℤ) → neg_ℤ b *ℤ a ≡ neg_ℤ (b *ℤ a)
neg_ℤ-*ℤ a b =
    let e = neg_is b in
    omega (
      arith,
      ints,
      ap (λ (x : ℕ). up a * x) e.0,
      ap (λ (x : ℕ). down a * x) e.0,
      ap (λ (x : ℕ). up a * x) e.1,
      ap (λ (x : ℕ). down a * x) e.1,
    )

pub *ℤ_assoc : (a b c : ℤ) → (a *ℤ b) *ℤ c ≡ a *ℤ (b *ℤ c)
*ℤ_assoc a b c =
    let e = product_is a b in
    let f = product_is b c in
    omega (
      arith,
      ints,
      ap (λ (x : ℕ). up c * x) e.0,
      ap (λ (x : ℕ). down c * x) e.0,
      ap (λ (x : ℕ). up c * x) e.1,
      ap (λ (x : ℕ). down c * x) e.1,
      ap (λ (x : ℕ). up a * x) f.0,
      ap (λ (x : ℕ). down a * x) f.0,
      ap (λ (x : ℕ). up a * x) f.1,
      ap (λ (x : ℕ). down a * x) f.1,
    )

pub *ℤ_left_comm : (a b c : ℤ) → a *ℤ (b *ℤ c) ≡ b *ℤ (a *ℤ c)
*ℤ_left_comm a b c =
    let e = product_is a c in
    let f = product_is b c in
    omega (
      arith,
      ints,
      ap (λ (x : ℕ). up b * x) e.0,
      ap (λ (x : ℕ). down b * x) e.0,
      ap (λ (x : ℕ). up b * x) e.1,
      ap (λ (x : ℕ). down b * x) e.1,
      ap (λ (x : ℕ). up a * x) f.0,
      ap (λ (x : ℕ). down a * x) f.0,
      ap (λ (x : ℕ). up a * x) f.1,
      ap (λ (x : ℕ). down a * x) f.1,
    )

-- a numeral at the end of a product of 1 to 5 other factors: the multiple. `omega` reads ℤ as a difference up - down
pub scale_1 : (a : ℤ) (k : ℕ) → (up (a *ℤ pos k) ≡ k * up a) × (down (a *ℤ pos k) ≡ k * down a)
scale_1 a k = omega (arith, ints)

pub scale_2 : (a b : ℤ) (k : ℕ) → (up (a *ℤ (b *ℤ pos k)) ≡ k * up (a *ℤ b)) × (down (a *ℤ (b *ℤ pos k)) ≡ k * down (a *ℤ b))
scale_2 a b k = rw (← *ℤ_assoc) (scale_1 (a *ℤ b) k)

pub scale_3 : (a b c : ℤ) (k : ℕ) → (up (a *ℤ (b *ℤ (c *ℤ pos k))) ≡ k * up (a *ℤ (b *ℤ c))) × (down (a *ℤ (b *ℤ (c *ℤ pos k))) ≡ k * down (a *ℤ (b *ℤ c)))
scale_3 a b c k = rw (← *ℤ_assoc b c (pos k)) (scale_2 a (b *ℤ c) k)

pub scale_4 : (a b c d : ℤ) (k : ℕ) → (up (a *ℤ (b *ℤ (c *ℤ (d *ℤ pos k)))) ≡ k * up (a *ℤ (b *ℤ (c *ℤ d)))) × (down (a *ℤ (b *ℤ (c *ℤ (d *ℤ pos k)))) ≡ k * down (a *ℤ (b *ℤ (c *ℤ d))))
scale_4 a b c d k = rw (← *ℤ_assoc c d (pos k)) (scale_3 a b (c *ℤ d) k)

pub scale_5 : (a b c d e : ℤ) (k : ℕ) → (up (a *ℤ (b *ℤ (c *ℤ (d *ℤ (e *ℤ pos k))))) ≡ k * up (a *ℤ (b *ℤ (c *ℤ (d *ℤ e))))) × (down (a *ℤ (b *ℤ (c *ℤ (d *ℤ (e *ℤ pos k))))) ≡ k * down (a *ℤ (b *ℤ (c *ℤ (d *ℤ e)))))
scale_5 a b c d e k = rw (← *ℤ_assoc d e (pos k)) (scale_4 a b c (d *ℤ e) k)

-- a numeral before the last factor, with 0 to 2 others before it
pub times_1 : (k : ℕ) (a : ℤ) → (up (pos k *ℤ a) ≡ k * up a) × (down (pos k *ℤ a) ≡ k * down a)
times_1 k a = omega (arith, ints)

pub times_2 : (a : ℤ) (k : ℕ) (b : ℤ) → (up (a *ℤ (pos k *ℤ b)) ≡ k * up (a *ℤ b)) × (down (a *ℤ (pos k *ℤ b)) ≡ k * down (a *ℤ b))
times_2 a k b = rw (*ℤ_left_comm a (pos k) b) (times_1 k (a *ℤ b))

pub times_3 : (a b : ℤ) (k : ℕ) (c : ℤ) → (up (a *ℤ (b *ℤ (pos k *ℤ c))) ≡ k * up (a *ℤ (b *ℤ c))) × (down (a *ℤ (b *ℤ (pos k *ℤ c))) ≡ k * down (a *ℤ (b *ℤ c)))
times_3 a b k c = rw (*ℤ_left_comm b (pos k) c) (times_2 a k (b *ℤ c))

-- linear arithmetic over ℤ in which each monomial is one unknown (std's `ints` multiplies a first factor out)
pub ruleset lin = (same_out, Apart-out, lt_out, le_out, same_in, below_in, at_most_in, sum_is_lem, neg_is, scale_1, scale_2, scale_3, scale_4, scale_5, times_1, times_2, times_3)

-- rewrites to a sum of monomials with sorted factors
pub ruleset spread = (*ℤ-+ℤ, +ℤ-*ℤ, *ℤ-neg_ℤ, neg_ℤ-*ℤ, neg_ℤ-+ℤ, neg_ℤ-neg_ℤ, *ℤ_assoc, *ℤ_left_comm, *ℤ_comm)
