-- How great the numbers of rows, reports, vectors and products are.
use Rattle.std.proofs.Common.{◌≡◌, ◌≤ℤ◌, false, ℕ, ℤ, to_z, of_z, pos, neg_ℤ, ◌+ℤ◌, ◌-ℤ◌, ◌*ℤ◌, FitsSigned, arith, lit<}
use Rattle.std.proofs.lemmas.Int.{ints}
use Rattle.std.specs.Prelude.{int_lt}
use mir.Syntax.{w128}
use Rattle.mt_ring.proofs.Sizes.{Abs, abs_add, abs_sub, abs_mul, fits_128}
use Rattle.mt_base.specs.Bounds.{IsWithin}
use Rattle.mt_watch.specs.declared.vector.Vector.{Vector}
use Rattle.mt_watch.specs.Private.Plane.{IsProduct, IsSmall, cross_product, dot}

pub size_of : {m : ℕ} {z : ℤ} → IsWithin (neg_ℤ (pos m)) (pos m) z → Abs m z
size_of {m} {z} h = record { low = h.least; high = h.most }

within_size : {m : ℕ} {z : ℤ} → Abs m z → IsWithin (neg_ℤ (pos m)) (pos m) z
within_size {m} {z} h = record { least = h.low; most = h.high }

-- the parts of the products of two vectors fit 128 bits
pub record ProductsFit (v w : Vector) : Type 0 where
  pub fits_vx : FitsSigned w128 v.x
  pub fits_vy : FitsSigned w128 v.y
  pub fits_wx : FitsSigned w128 w.x
  pub fits_wy : FitsSigned w128 w.y
  pub fits_xx : FitsSigned w128 (v.x *ℤ w.x)
  pub fits_yy : FitsSigned w128 (v.y *ℤ w.y)
  pub fits_xy : FitsSigned w128 (v.x *ℤ w.y)
  pub fits_yx : FitsSigned w128 (v.y *ℤ w.x)
  pub fits_cross : FitsSigned w128 (v.x *ℤ w.y -ℤ v.y *ℤ w.x)
  pub fits_dot : FitsSigned w128 (v.x *ℤ w.x +ℤ v.y *ℤ w.y)

pub products_fit : (v w : Vector) → IsSmall v → IsSmall w → ProductsFit v w
products_fit v w v_small w_small =
    let vx = size_of v_small.x_within in
    let vy = size_of v_small.y_within in
    let wx = size_of w_small.x_within in
    let wy = size_of w_small.y_within in
    record {
      fits_vx = fits_128 vx (lit< tt);
      fits_vy = fits_128 vy (lit< tt);
      fits_wx = fits_128 wx (lit< tt);
      fits_wy = fits_128 wy (lit< tt);
      fits_xx = fits_128 (abs_mul vx wx) (lit< tt);
      fits_yy = fits_128 (abs_mul vy wy) (lit< tt);
      fits_xy = fits_128 (abs_mul vx wy) (lit< tt);
      fits_yx = fits_128 (abs_mul vy wx) (lit< tt);
      fits_cross = fits_128 (abs_sub (abs_mul vx wy) (abs_mul vy wx)) (lit< tt);
      fits_dot = fits_128 (abs_add (abs_mul vx wx) (abs_mul vy wy)) (lit< tt);
    }

-- how great the products are
pub cross_is_product : (v w : Vector) → IsSmall v → IsSmall w → IsProduct (cross_product v w)
cross_is_product v w v_small w_small =
    within_size (abs_sub (abs_mul (size_of v_small.x_within) (size_of w_small.y_within)) (abs_mul (size_of v_small.y_within) (size_of w_small.x_within)))

pub dot_is_product : (v w : Vector) → IsSmall v → IsSmall w → IsProduct (dot v w)
dot_is_product v w v_small w_small =
    within_size (abs_add (abs_mul (size_of v_small.x_within) (size_of w_small.x_within)) (abs_mul (size_of v_small.y_within) (size_of w_small.y_within)))

-- such a product is not changed by its bits
pub as_is : (z : ℤ) → IsProduct z → to_z w128 (of_z w128 z) ≡ z
as_is z kept = omega (arith, ints, kept.least, kept.most)

-- the squares of a tolerance and of a product fit 128 bits
pub record SquaresFit (tolerance product squared : ℤ) : Type 0 where
  pub fits_product : FitsSigned w128 product
  pub fits_squared : FitsSigned w128 squared
  pub fits_tolerance : FitsSigned w128 (tolerance *ℤ tolerance)
  pub fits_left : FitsSigned w128 (tolerance *ℤ tolerance *ℤ squared)
  pub fits_right : FitsSigned w128 (product *ℤ product)

pub squares_fit : (tolerance product squared : ℤ) → IsWithin (pos 0) (pos 360000) tolerance → IsProduct product → IsProduct squared
    → SquaresFit tolerance product squared
squares_fit tolerance product squared tolerance_kept product_kept squared_kept =
    let t : Abs 360000 tolerance = omega (arith, ints, tolerance_kept.least, tolerance_kept.most) in
    let p = size_of product_kept in
    let q = size_of squared_kept in
    record {
      fits_product = fits_128 p (lit< tt);
      fits_squared = fits_128 q (lit< tt);
      fits_tolerance = fits_128 (abs_mul t t) (lit< tt);
      fits_left = fits_128 (abs_mul (abs_mul t t) q) (lit< tt);
      fits_right = fits_128 (abs_mul p p) (lit< tt);
    }

-- what is not above a tolerance
pub not_beyond : (tolerance z : ℤ) → z ≤ℤ tolerance → int_lt tolerance z ≡ false
not_beyond tolerance z below = grind (arith, ints)
