-- The box of straight rows is that of their first instant and their last one, and the box of two lists is the two boxes box_of_both.
use Rattle.std.proofs.Common.{◌≡◌, ℕ, zero, suc, ◌⊎◌, inl, inr, ℤ, pos, negsuc, ◌+ℤ◌, ◌-ℤ◌, ◌*ℤ◌, ◌≤ℤ◌, ◌<◌, List, [], ◌∷◌, ◌++◌, refl, sym, ap, ◌∙◌, arith}
use Rattle.std.proofs.lemmas.Int.{clamps, ints}
use Rattle.std.specs.Int.{int_max, int_min}
use Rattle.mt_base.specs.declared.row.Row.{Row}
use Rattle.mt_base.specs.Trajectory.{next_row, straight_rows}
use Rattle.mt_ring.proofs.Ring.{lin}
use Rattle.mt_cover.specs.declared.bounding_box.BoundingBox.{BoundingBox}
use Rattle.mt_cover.specs.declared.bounding_box.Extent.{Extent}
use Rattle.mt_cover.specs.Box.{box_of, box_over, extent_of, grown, grown_by, hull, layer_of}
use Rattle.mt_cover.specs.Private.Parts.{box_of_both, straight_layer}

-- the box of so many straight rows, from a row on, as the code makes it
abbrev pub straight_box : Row → ℕ → BoundingBox
straight_box row seconds = record {
  x = extent_of row.x (row.vx *ℤ pos seconds);
  y = extent_of row.y (row.vy *ℤ pos seconds);
  margin = row.r +ℤ row.gr *ℤ pos seconds;
  layer = straight_layer row seconds;
}

-- two gains in one direction, and one of them no less than the other
abbrev Along : ℤ → ℤ → Type 0
Along v w = ((pos 0 ≤ℤ v) × (v ≤ℤ w)) ⊎ ((v ≤ℤ pos 0) × (w ≤ℤ v))

further : (v : ℤ) (n : ℕ) → Along v (v *ℤ pos (suc n))
further (pos v) n = inl (omega (arith, ints), omega (arith, ints))
further (negsuc v) n = inr (omega (arith, ints), omega (arith, ints))

-- a value gains once more
once : (z v : ℤ) → z +ℤ v ≡ z +ℤ v *ℤ pos 1
once z v = omega (arith, ints)

on : (z v : ℤ) (n : ℕ) → (z +ℤ v) +ℤ v *ℤ pos (suc n) ≡ z +ℤ v *ℤ pos (suc (suc n))
on z v n = omega (arith, ints)

-- what lies between two ends counts for neither
low_on : (l z v w : ℤ) → Along v w → int_min (int_min l (int_min z (z +ℤ v))) (int_min (z +ℤ v) ((z +ℤ v) +ℤ w)) ≡ int_min l (int_min z ((z +ℤ v) +ℤ w))
low_on l z v w (inl h) = let a = h.0 in let b = h.1 in omega (arith, ints, clamps)
low_on l z v w (inr h) = let a = h.0 in let b = h.1 in omega (arith, ints, clamps)

high_on : (l z v w : ℤ) → Along v w → int_max (int_max l (int_max z (z +ℤ v))) (int_max (z +ℤ v) ((z +ℤ v) +ℤ w)) ≡ int_max l (int_max z ((z +ℤ v) +ℤ w))
high_on l z v w (inl h) = let a = h.0 in let b = h.1 in omega (arith, ints, clamps)
high_on l z v w (inr h) = let a = h.0 in let b = h.1 in omega (arith, ints, clamps)

hull-on : (e : Extent) (z v : ℤ) (n : ℕ) → hull (hull e (extent_of z v)) (extent_of (z +ℤ v) (v *ℤ pos (suc n))) ≡ hull e (extent_of z (v *ℤ pos (suc (suc n))))
hull-on e z v n = rw (← on z v n) (λ i. record {
  low = low_on e.low z v (v *ℤ pos (suc n)) (further v n) i;
  high = high_on e.high z v (v *ℤ pos (suc n)) (further v n) i;
})

gains : (g : ℤ) (n : ℕ) → pos 0 ≤ℤ g → g ≤ℤ (g *ℤ pos (suc n))
gains (pos g) n up = omega (arith, ints)
gains (negsuc g) n up = absurd (omega (arith, ints))

margin-on : (m r g : ℤ) (n : ℕ) → pos 0 ≤ℤ g → int_max (int_max m (r +ℤ g)) ((r +ℤ g) +ℤ g *ℤ pos (suc n)) ≡ int_max m (r +ℤ g *ℤ pos (suc (suc n)))
margin-on m r g n up = let more = gains g n up in rw (← on r g n) (omega (arith, ints, clamps))

-- a height less a margin, and with it, a second later
less_next : (z w v g : ℤ) → ((z +ℤ v) -ℤ (w +ℤ g)) ≡ ((z -ℤ w) +ℤ (v -ℤ g))
less_next z w v g = omega (arith, lin)

more_next : (z w v g : ℤ) → ((z +ℤ v) +ℤ (w +ℤ g)) ≡ ((z +ℤ w) +ℤ (v +ℤ g))
more_next z w v g = omega (arith, lin)

less-on : (l z w v g : ℤ) (n : ℕ) → int_min (int_min l (extent_of (z -ℤ w) (v -ℤ g)).low) (extent_of ((z +ℤ v) -ℤ (w +ℤ g)) ((v -ℤ g) *ℤ pos (suc n))).low
    ≡ int_min l (extent_of (z -ℤ w) ((v -ℤ g) *ℤ pos (suc (suc n)))).low
less-on l z w v g n = rw (less_next z w v g) (ap (λ (e : Extent). e.low) (hull-on (record { low = l; high = l }) (z -ℤ w) (v -ℤ g) n))

more-on : (h z w v g : ℤ) (n : ℕ) → int_max (int_max h (extent_of (z +ℤ w) (v +ℤ g)).high) (extent_of ((z +ℤ v) +ℤ (w +ℤ g)) ((v +ℤ g) *ℤ pos (suc n))).high
    ≡ int_max h (extent_of (z +ℤ w) ((v +ℤ g) *ℤ pos (suc (suc n)))).high
more-on h z w v g n = rw (more_next z w v g) (ap (λ (e : Extent). e.high) (hull-on (record { low = h; high = h }) (z +ℤ w) (v +ℤ g) n))

both-on : (a : BoundingBox) (r : Row) (n : ℕ) → pos 0 ≤ℤ r.gr → box_of_both (grown a r) (straight_box (next_row r) (suc n)) ≡ box_of_both a (straight_box r (suc (suc n)))
both-on a r n up = λ i. record {
  x = hull-on a.x r.x r.vx n i;
  y = hull-on a.y r.y r.vy n i;
  margin = margin-on a.margin r.r r.gr n up i;
  layer = record { low = less-on a.layer.low r.z r.w r.vz r.gw n i; high = more-on a.layer.high r.z r.w r.vz r.gw n i };
}

extent-one : (z v : ℤ) → extent_of z v ≡ extent_of z (v *ℤ pos 1)
extent-one z v = ap (λ (end : ℤ). record { low = int_min z end; high = int_max z end }) (once z v)

box-one : (r : Row) → box_of r ≡ straight_box r 1
box-one r = λ i. record {
  x = extent-one r.x r.vx i;
  y = extent-one r.y r.vy i;
  margin = once r.r r.gr i;
  layer = record { low = (extent-one (r.z -ℤ r.w) (r.vz -ℤ r.gw) i).low; high = (extent-one (r.z +ℤ r.w) (r.vz +ℤ r.gw) i).high };
}

grown_by-straight : (a : BoundingBox) (r : Row) (n : ℕ) → pos 0 ≤ℤ r.gr → grown_by a (straight_rows r (suc n)) ≡ box_of_both a (straight_box r (suc n))
grown_by-straight a r zero up = ap (box_of_both a) (box-one r)
grown_by-straight a r (suc n) up = grown_by-straight (grown a r) (next_row r) n up ∙ both-on a r n up

-- the first row adds nothing to all of them
low_held : (z v w : ℤ) → Along v w → int_min (int_min z (z +ℤ v)) (int_min z (z +ℤ w)) ≡ int_min z (z +ℤ w)
low_held z v w (inl h) = let a = h.0 in let b = h.1 in omega (arith, ints, clamps)
low_held z v w (inr h) = let a = h.0 in let b = h.1 in omega (arith, ints, clamps)

high_held : (z v w : ℤ) → Along v w → int_max (int_max z (z +ℤ v)) (int_max z (z +ℤ w)) ≡ int_max z (z +ℤ w)
high_held z v w (inl h) = let a = h.0 in let b = h.1 in omega (arith, ints, clamps)
high_held z v w (inr h) = let a = h.0 in let b = h.1 in omega (arith, ints, clamps)

hull-held : (z v : ℤ) (n : ℕ) → hull (extent_of z v) (extent_of z (v *ℤ pos (suc n))) ≡ extent_of z (v *ℤ pos (suc n))
hull-held z v n = λ i. record { low = low_held z v (v *ℤ pos (suc n)) (further v n) i; high = high_held z v (v *ℤ pos (suc n)) (further v n) i }

margin-held : (r g : ℤ) (n : ℕ) → pos 0 ≤ℤ g → int_max (r +ℤ g) (r +ℤ g *ℤ pos (suc n)) ≡ r +ℤ g *ℤ pos (suc n)
margin-held r g n up = let more = gains g n up in omega (arith, ints, clamps)

all-held : (r : Row) (n : ℕ) → pos 0 ≤ℤ r.gr → box_of_both (box_of r) (straight_box r (suc n)) ≡ straight_box r (suc n)
all-held r n up = λ i. record {
  x = hull-held r.x r.vx n i;
  y = hull-held r.y r.vy n i;
  margin = margin-held r.r r.gr n up i;
  layer = record {
    low = (hull-held (r.z -ℤ r.w) (r.vz -ℤ r.gw) n i).low;
    high = (hull-held (r.z +ℤ r.w) (r.vz +ℤ r.gw) n i).high;
  };
}

pub is_box_over : (r : Row) (n : ℕ) (a : BoundingBox) → 0 < n → pos 0 ≤ℤ r.gr → a ≡ straight_box r n → a ≡ box_over (straight_rows r n) r
is_box_over r zero a some up is = absurd (omega arith)
is_box_over r (suc n) a some up is = is ∙ sym (grown_by-straight (box_of r) r n up ∙ all-held r n up)

-- rows that are added to two boxes box_of_both
min_on : (p q r : ℤ) → int_min (int_min p q) r ≡ int_min p (int_min q r)
min_on p q r = omega (arith, ints, clamps)

max_on : (p q r : ℤ) → int_max (int_max p q) r ≡ int_max p (int_max q r)
max_on p q r = omega (arith, ints, clamps)

both-grown : (a b : BoundingBox) (r : Row) → grown (box_of_both a b) r ≡ box_of_both a (grown b r)
both-grown a b r = λ i. record {
  x = record { low = min_on a.x.low b.x.low (extent_of r.x r.vx).low i; high = max_on a.x.high b.x.high (extent_of r.x r.vx).high i };
  y = record { low = min_on a.y.low b.y.low (extent_of r.y r.vy).low i; high = max_on a.y.high b.y.high (extent_of r.y r.vy).high i };
  margin = max_on a.margin b.margin (r.r +ℤ r.gr) i;
  layer = record { low = min_on a.layer.low b.layer.low (layer_of r).low i; high = max_on a.layer.high b.layer.high (layer_of r).high i };
}

both-grown_by : (a b : BoundingBox) (rows : List Row) → grown_by (box_of_both a b) rows ≡ box_of_both a (grown_by b rows)
both-grown_by a b [] = refl
both-grown_by a b (r ∷ rows) = ap (λ (c : BoundingBox). grown_by c rows) (both-grown a b r) ∙ both-grown_by a (grown b r) rows

least_twice : (p : ℤ) → int_min p p ≡ p
least_twice p = omega (arith, ints, clamps)

greatest_twice : (p : ℤ) → int_max p p ≡ p
greatest_twice p = omega (arith, ints, clamps)

grown-own : (r : Row) → grown (box_of r) r ≡ box_of r
grown-own r = λ i. record {
  x = record { low = least_twice (extent_of r.x r.vx).low i; high = greatest_twice (extent_of r.x r.vx).high i };
  y = record { low = least_twice (extent_of r.y r.vy).low i; high = greatest_twice (extent_of r.y r.vy).high i };
  margin = greatest_twice (r.r +ℤ r.gr) i;
  layer = record { low = least_twice (layer_of r).low i; high = greatest_twice (layer_of r).high i };
}

grown_by-append : (a : BoundingBox) (xs ys : List Row) → grown_by a (xs ++ ys) ≡ grown_by (grown_by a xs) ys
grown_by-append a [] ys = refl
grown_by-append a (x ∷ xs) ys = grown_by-append (grown a x) xs ys

pub box_over-append : (xs ys : List Row) (x y : Row) → box_over (xs ++ y ∷ ys) x ≡ box_of_both (box_over xs x) (box_over (y ∷ ys) y)
box_over-append xs ys x y =
    grown_by-append (box_of x) xs (y ∷ ys)
    ∙ both-grown_by (box_over xs x) (box_of y) ys
    ∙ ap (λ (b : BoundingBox). box_of_both (box_over xs x) (grown_by b ys)) (sym (grown-own y))
