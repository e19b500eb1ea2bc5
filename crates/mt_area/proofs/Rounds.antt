-- No point lies to the left of all sides of a polygon and beyond all of its corners in one direction: seen from there the corners would turn to the
-- left all the way round, within half a turn.
use Rattle.std.proofs.Common.{◌≡◌, ℕ, zero, suc, ◌+◌, ◌-◌, ◌<◌, ◌≤◌, ℤ, pos, neg_ℤ, ◌+ℤ◌, ◌-ℤ◌, ◌*ℤ◌, ◌<ℤ◌, List, length, subst, sym, arith}
use Rattle.std.proofs.lemmas.Bool.{le-ltb, lt-ltb}
use Rattle.mt_ring.proofs.Ring.{lin, spread}
use Rattle.mt_ring.proofs.Signs.{below_cancel, mul_pos}
use Rattle.mt_base.specs.Area.{LiesLeft, corner, cross, place_after}

-- how far a vector goes in the direction (p, q)
abbrev pub along : ℤ → ℤ → ℤ → ℤ → ℤ
along p q x y = p *ℤ x +ℤ q *ℤ y

cross_along : (p q ax ay bx by cx cy : ℤ) → along p q bx by *ℤ cross ax ay cx cy ≡ along p q cx cy *ℤ cross ax ay bx by +ℤ along p q ax ay *ℤ cross bx by cx cy
cross_along p q ax ay bx by cx cy = simp spread (omega (arith, lin))

third : (a b c ab bc ac : ℤ) → a <ℤ pos 0 → b <ℤ pos 0 → c <ℤ pos 0 → pos 0 <ℤ ab → pos 0 <ℤ bc → b *ℤ ac ≡ c *ℤ ab +ℤ a *ℤ bc → pos 0 <ℤ ac
third a b c ab bc ac a- b- c- ab+ bc+ e =
    let one = mul_pos (neg_ℤ c) ab (omega (arith, lin)) ab+ in
    let two = mul_pos (neg_ℤ a) bc (omega (arith, lin)) bc+ in
    let low : (neg_ℤ b *ℤ neg_ℤ ac) <ℤ pos 0 = simp spread (omega (arith, lin, simp spread at one, simp spread at two, e)) in
    let below = below_cancel (neg_ℤ b) (neg_ℤ ac) (omega (arith, lin)) low in
    omega (arith, lin)

-- of three vectors that go backwards, the second to the left of the first and the third to the left of the second, the third is to the left of
-- the first
turn : (p q ax ay bx by cx cy : ℤ) → along p q ax ay <ℤ pos 0 → along p q bx by <ℤ pos 0 → along p q cx cy <ℤ pos 0
    → pos 0 <ℤ cross ax ay bx by → pos 0 <ℤ cross bx by cx cy → pos 0 <ℤ cross ax ay cx cy
turn p q ax ay bx by cx cy a- b- c- ab bc = third _ _ _ _ _ _ a- b- c- ab bc (cross_along p q ax ay bx by cx cy)

turned_is : (ix iy jx jy x y d : ℤ) → cross (d *ℤ ix -ℤ x) (d *ℤ iy -ℤ y) (d *ℤ jx -ℤ x) (d *ℤ jy -ℤ y)
    ≡ d *ℤ cross (jx -ℤ ix) (jy -ℤ iy) (x -ℤ d *ℤ ix) (y -ℤ d *ℤ iy)
turned_is ix iy jx jy x y d = simp spread (omega (arith, lin))

opposite : (ax ay bx by : ℤ) → cross ax ay bx by ≡ neg_ℤ (cross bx by ax ay)
opposite ax ay bx by = simp spread (omega (arith, lin))

module _ (corners : List (ℤ × ℤ)) (p q x y d : ℤ) where
  -- the cross product of the vectors from the point to two corners
  abbrev turned : ℕ → ℕ → ℤ
  turned i j = cross (d *ℤ (corner corners i).0 -ℤ x) (d *ℤ (corner corners i).1 -ℤ y) (d *ℤ (corner corners j).0 -ℤ x) (d *ℤ (corner corners j).1 -ℤ y)

  -- the point lies to the left of each side, and beyond each corner
  pub record IsBeyond : Type 0 where
    pub some : 2 ≤ length corners
    pub positive : pos 0 <ℤ d
    pub left : (i : ℕ) → i < length corners → LiesLeft (corner corners i) (corner corners (place_after corners i)) x y d
    pub behind : (i : ℕ) → i < length corners → along p q (d *ℤ (corner corners i).0 -ℤ x) (d *ℤ (corner corners i).1 -ℤ y) <ℤ pos 0

  side : IsBeyond → (i : ℕ) → i < length corners → pos 0 <ℤ turned i (place_after corners i)
  side at i below =
      subst (λ (z : ℤ). pos 0 <ℤ z)
      (sym (turned_is (corner corners i).0 (corner corners i).1 (corner corners (place_after corners i)).0 (corner corners (place_after corners i)).1 x y d))
      (mul_pos d _ at.positive (at.left i below))

  next : IsBeyond → (i : ℕ) → suc i < length corners → pos 0 <ℤ turned i (suc i)
  next at i below =
      let e : i + 1 ≡ suc i = omega arith in
      subst (λ (j : ℕ). pos 0 <ℤ turned i j) e (rw (lt-ltb (i + 1) (length corners) (omega arith)) at (side at i (omega arith)))

  onward : IsBeyond → (i : ℕ) → suc i < length corners → pos 0 <ℤ turned 0 (suc i)
  onward at zero below = next at 0 below
  onward at (suc i) below =
      turn p q _ _ _ _ _ _ (at.behind 0 (omega arith)) (at.behind (suc i) (omega arith)) (at.behind (suc (suc i)) below) (onward at i (omega arith)) (next at (suc i) below)

  back : IsBeyond → (i : ℕ) → i + 1 ≡ length corners → pos 0 <ℤ turned i 0
  back at i last = rw (le-ltb (i + 1) (length corners) (omega arith)) at (side at i (omega arith))

  closing : IsBeyond → (i : ℕ) → suc i + 1 ≡ length corners → ⊥
  closing at i last =
      let there = onward at i (omega arith) in
      let again = back at (suc i) last in
      let same = opposite (d *ℤ (corner corners 0).0 -ℤ x) (d *ℤ (corner corners 0).1 -ℤ y)
      (d *ℤ (corner corners (suc i)).0 -ℤ x) (d *ℤ (corner corners (suc i)).1 -ℤ y) in
      both _ _ same there again where
        both : (a b : ℤ) → a ≡ neg_ℤ b → pos 0 <ℤ a → pos 0 <ℤ b → ⊥
        both a b e a+ b+ = absurd (omega (arith, lin, e, a+, b+))

  pub none_beyond : ¬ IsBeyond
  none_beyond at = closing at (length corners - 2) (omega (arith, at.some))
