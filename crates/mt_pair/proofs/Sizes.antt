-- How great the numbers of rows, offsets and products are.
use Rattle.std.proofs.Common.{ℕ, ◌*◌, ◌+◌, ◌<◌, ◌≤◌, ◌^◌, ℤ, pos, neg_ℤ, ◌+ℤ◌, ◌-ℤ◌, ◌*ℤ◌, ◌≤ℤ◌, FitsSigned, arith, lit<}
use Rattle.std.proofs.lemmas.Int.{ints}
use mir.Syntax.{w64, w128}
use Rattle.mt_ring.proofs.Sizes.{Abs, abs_add, abs_sub, abs_mul, abs_weaken, fits_64, fits_128}
use Rattle.mt_base.specs.Bounds.{AreWithinBounds, IsBoundedRow, IsWithin}
use Rattle.mt_base.specs.declared.row.Row.{Row}
use Rattle.mt_base.specs.declared.rules.Rules.{Rules}
use Rattle.mt_pair.specs.declared.horizontal.Offset.{Offset}
use Rattle.mt_pair.specs.Gap.{gain_of, offset_of, product}
use Rattle.mt_pair.specs.Private.Gap.{IsOffsetWithin}

-- the numbers of a bounded row, and the minima
pub record RowSizes (row : Row) : Type 0 where
  pub x : Abs 3686400 row.x
  pub y : Abs 3686400 row.y
  pub z : Abs 3600000 row.z
  pub r : Abs 72000 row.r
  pub w : Abs 600000 row.w
  pub vx : Abs 1000 row.vx
  pub vy : Abs 1000 row.vy
  pub vz : Abs 10000 row.vz
  pub gr : Abs 1000 row.gr
  pub gw : Abs 10000 row.gw

within : {low high z : ℤ} (m : ℕ) → IsWithin low high z → neg_ℤ (pos m) ≤ℤ low → high ≤ℤ pos m → Abs m z
within {low} {high} {z} m h above below = record { low = omega (arith, ints); high = omega (arith, ints) }

pub row_sizes : (row : Row) → IsBoundedRow row → RowSizes row
row_sizes row kept = record {
  x = within _ kept.x.value (omega (arith, ints)) (omega (arith, ints));
  y = within _ kept.y.value (omega (arith, ints)) (omega (arith, ints));
  z = within _ kept.z.value (omega (arith, ints)) (omega (arith, ints));
  r = within _ kept.r.value (omega (arith, ints)) (omega (arith, ints));
  w = within _ kept.w.value (omega (arith, ints)) (omega (arith, ints));
  vx = within _ kept.x.growth (omega (arith, ints)) (omega (arith, ints));
  vy = within _ kept.y.growth (omega (arith, ints)) (omega (arith, ints));
  vz = within _ kept.z.growth (omega (arith, ints)) (omega (arith, ints));
  gr = within _ kept.r.growth (omega (arith, ints)) (omega (arith, ints));
  gw = within _ kept.w.growth (omega (arith, ints)) (omega (arith, ints));
}

pub sh_size : (rules : Rules) → AreWithinBounds rules → Abs 72000 rules.sh
sh_size rules kept = within _ kept.sh (omega (arith, ints)) (omega (arith, ints))

pub least_size : (least : ℤ) → IsWithin (pos 1) (pos 600000) least → Abs 600000 least
least_size least kept = within _ kept (omega (arith, ints)) (omega (arith, ints))

-- the greater minimum is not below the lesser
pub sv2_kept : (rules : Rules) → AreWithinBounds rules → IsWithin (pos 1) (pos 600000) rules.sv2
sv2_kept rules kept = record { least = omega (arith, ints, kept.sv.least, kept.sv2.least); most = kept.sv2.most }

-- to and from the bounds of an offset
pub record OffsetSizes (most : ℕ) (o : Offset) : Type 0 where
  pub x : Abs most o.x
  pub y : Abs most o.y
  pub w : Abs most o.width

offset_sizes : {most : ℕ} {o : Offset} → IsOffsetWithin most o → OffsetSizes most o
offset_sizes {most} {o} h = record {
  x = record { low = h.x_within.least; high = h.x_within.most };
  y = record { low = h.y_within.least; high = h.y_within.most };
  w = record { low = h.width_within.least; high = h.width_within.most };
}

offset_bounds : {most : ℕ} {o : Offset} → OffsetSizes most o → IsOffsetWithin most o
offset_bounds {most} {o} h = record {
  x_within = record { least = h.x.low; most = h.x.high };
  y_within = record { least = h.y.low; most = h.y.high };
  width_within = record { least = h.w.low; most = h.w.high };
}

pub IsOffsetWithin-weaken : (m n : ℕ) (o : Offset) → m ≤ n → IsOffsetWithin m o → IsOffsetWithin n o
IsOffsetWithin-weaken m n o more kept =
    let h = offset_sizes kept in
    offset_bounds (record { x = abs_weaken h.x more; y = abs_weaken h.y more; w = abs_weaken h.w more })

pub offset_of_within : (rules : Rules) (a b : Row) → AreWithinBounds rules → IsBoundedRow a → IsBoundedRow b → IsOffsetWithin 7372800 (offset_of rules a b)
offset_of_within rules a b rules_kept a_kept b_kept =
    let h = row_sizes a a_kept in
    let k = row_sizes b b_kept in
    offset_bounds (record {
      x = abs_sub k.x h.x;
      y = abs_sub k.y h.y;
      w = abs_weaken (abs_add (abs_add (sh_size rules rules_kept) h.r) k.r) (omega arith);
    })

pub gain_of_within : (a b : Row) → IsBoundedRow a → IsBoundedRow b → IsOffsetWithin 2000 (gain_of a b)
gain_of_within a b a_kept b_kept =
    let h = row_sizes a a_kept in
    let k = row_sizes b b_kept in
    offset_bounds (record { x = abs_sub k.vx h.vx; y = abs_sub k.vy h.vy; w = abs_add h.gr k.gr })

-- the parts of a product of two offsets fit 128 bits
pub record ProductFits (p q : Offset) : Type 0 where
  pub fits_px : FitsSigned w128 p.x
  pub fits_py : FitsSigned w128 p.y
  pub fits_pw : FitsSigned w128 p.width
  pub fits_qx : FitsSigned w128 q.x
  pub fits_qy : FitsSigned w128 q.y
  pub fits_qw : FitsSigned w128 q.width
  pub small_px : FitsSigned w64 p.x
  pub small_py : FitsSigned w64 p.y
  pub small_pw : FitsSigned w64 p.width
  pub small_qx : FitsSigned w64 q.x
  pub small_qy : FitsSigned w64 q.y
  pub small_qw : FitsSigned w64 q.width
  pub fits_x : FitsSigned w64 (p.x *ℤ q.x)
  pub fits_y : FitsSigned w64 (p.y *ℤ q.y)
  pub fits_width : FitsSigned w64 (p.width *ℤ q.width)
  pub fits_two : FitsSigned w64 (p.x *ℤ q.x +ℤ p.y *ℤ q.y)
  pub fits_all : FitsSigned w64 (p.x *ℤ q.x +ℤ p.y *ℤ q.y -ℤ p.width *ℤ q.width)

pub product_fits : (p q : Offset) → IsOffsetWithin 7372800 p → IsOffsetWithin 7372800 q → ProductFits p q
product_fits p q p_kept q_kept =
    let h = offset_sizes p_kept in
    let k = offset_sizes q_kept in
    record {
      fits_px = fits_128 h.x (lit< tt);
      fits_py = fits_128 h.y (lit< tt);
      fits_pw = fits_128 h.w (lit< tt);
      fits_qx = fits_128 k.x (lit< tt);
      fits_qy = fits_128 k.y (lit< tt);
      fits_qw = fits_128 k.w (lit< tt);
      small_px = fits_64 h.x (lit< tt);
      small_py = fits_64 h.y (lit< tt);
      small_pw = fits_64 h.w (lit< tt);
      small_qx = fits_64 k.x (lit< tt);
      small_qy = fits_64 k.y (lit< tt);
      small_qw = fits_64 k.w (lit< tt);
      fits_x = fits_64 (abs_mul h.x k.x) (lit< tt);
      fits_y = fits_64 (abs_mul h.y k.y) (lit< tt);
      fits_width = fits_64 (abs_mul h.w k.w) (lit< tt);
      fits_two = fits_64 (abs_add (abs_mul h.x k.x) (abs_mul h.y k.y)) (lit< tt);
      fits_all = fits_64 (abs_sub (abs_add (abs_mul h.x k.x) (abs_mul h.y k.y)) (abs_mul h.w k.w)) (lit< tt);
    }

-- how great a product is
pub product_size : {m n : ℕ} (p q : Offset) → IsOffsetWithin m p → IsOffsetWithin n q → Abs (m * n + m * n + m * n) (product p q)
product_size {m} {n} p q p_kept q_kept =
    let h = offset_sizes p_kept in
    let k = offset_sizes q_kept in
    abs_sub (abs_add (abs_mul h.x k.x) (abs_mul h.y k.y)) (abs_mul h.w k.w)

-- the parts of a height after some seconds fit 64 bits
pub record HeightFits (a : Row) (seconds : ℕ) : Type 0 where
  pub fits_z : FitsSigned w64 a.z
  pub fits_vz : FitsSigned w64 a.vz
  pub fits_seconds : FitsSigned w64 (pos seconds)
  pub fits_climb : FitsSigned w64 (a.vz *ℤ pos seconds)
  pub fits_all : FitsSigned w64 (a.z +ℤ a.vz *ℤ pos seconds)

pub height_fits : (a : Row) (seconds : ℕ) → IsBoundedRow a → seconds < 2 ^ 32 → HeightFits a seconds
height_fits a seconds kept small =
    let h = row_sizes a kept in
    let k : Abs 4294967296 (pos seconds) = record { low = omega (arith, ints); high = omega (arith, ints, small) } in
    record {
      fits_z = fits_64 h.z (lit< tt);
      fits_vz = fits_64 h.vz (lit< tt);
      fits_seconds = fits_64 k (lit< tt);
      fits_climb = fits_64 (abs_mul h.vz k) (lit< tt);
      fits_all = fits_64 (abs_add h.z (abs_mul h.vz k)) (lit< tt);
    }
