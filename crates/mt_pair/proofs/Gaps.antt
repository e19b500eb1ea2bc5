-- What the code makes of numbers that passed through their bits: the offset, its gains, the quadratic and the line.
use Rattle.std.proofs.Common.{◌≡◌, Bool, true, false, ℕ, ◌+◌, ◌<◌, ◌^◌, ℤ, pos, ◌+ℤ◌, ◌-ℤ◌, ◌*ℤ◌, FitsSigned, unsigned_abs, to_z, of_z, w64, arith, lit<, refl}
use Rattle.std.proofs.lemmas.Int.{ints, to_z-of_z}
use mir.Syntax.{w128}
use Rattle.mt_ring.proofs.Sizes.{Abs, abs_lit, abs_sub, abs_mul, abs_to, fits_128}
use Rattle.mt_base.specs.Bounds.{AreWithinBounds, IsBoundedRow, IsWithin}
use Rattle.mt_base.specs.declared.row.Row.{Row}
use Rattle.mt_base.specs.declared.rules.Rules.{Rules}
use Rattle.mt_frac.specs.Signs.{IsBoundedQuad, IsBoundedLine}
use Rattle.mt_pair.specs.declared.horizontal.Offset.{Offset}
use Rattle.mt_pair.specs.Gap.{above_of, excess_of, gain_of, offset_of, product, square_over_time}
use Rattle.mt_pair.specs.Private.Gap.{IsOffsetWithin}
use Rattle.mt_pair.specs.High.{level_of}
use Rattle.mt_pair.proofs.Casts.{Reads, abs_neg, minus, minus_fits, negated, number, plus, plus_fits, widened}
use Rattle.mt_pair.proofs.Sizes.{least_size, product_size, row_sizes, sh_size}

-- numbers by their bits, and sums and differences of them by theirs
abbrev pub in_64 : ℤ → ℤ
in_64 z = to_z w64 (of_z w64 z)

abbrev pub in_128 : ℤ → ℤ
in_128 z = to_z w128 (of_z w128 z)

abbrev pub less : ℤ → ℤ → ℤ
less y z = in_64 (y -ℤ z)

abbrev pub more : ℤ → ℤ → ℤ
more y z = in_64 (y +ℤ z)

difference : {m n : ℕ} {y z : ℤ} (v : ℤ) → Abs m y → Abs n z → v ≡ less (in_64 y) (in_64 z) → m < 2 ^ 63 → n < 2 ^ 63 → m + n < 2 ^ 63 → in_128 v ≡ y -ℤ z
difference {m} {n} {y} {z} v h k e m_small n_small small = widened v (minus (number h m_small) (number k n_small) small) e (omega arith)

pub width_reads : (rules : Rules) (a b : Row) → AreWithinBounds rules → IsBoundedRow a → IsBoundedRow b
    → Reads 144000 (more (in_64 rules.sh) (in_64 a.r)) (rules.sh +ℤ a.r)
width_reads rules a b rules_kept a_kept b_kept =
    let h = row_sizes a a_kept in
    plus (number (sh_size rules rules_kept) (lit< tt)) (number h.r (lit< tt)) (lit< tt)

pub width_fits : (rules : Rules) (a b : Row) → AreWithinBounds rules → IsBoundedRow a → IsBoundedRow b
    → FitsSigned w64 (more (in_64 rules.sh) (in_64 a.r) +ℤ in_64 b.r)
width_fits rules a b rules_kept a_kept b_kept =
    let k = row_sizes b b_kept in
    plus_fits (width_reads rules a b rules_kept a_kept b_kept) (number k.r (lit< tt)) (lit< tt)

pub offset_is : (rules : Rules) (a b : Row) → AreWithinBounds rules → IsBoundedRow a → IsBoundedRow b → (x y w : ℤ) → x ≡ less (in_64 b.x) (in_64 a.x)
    → y ≡ less (in_64 b.y) (in_64 a.y) → w ≡ more (more (in_64 rules.sh) (in_64 a.r)) (in_64 b.r)
    → record { x = in_128 x; y = in_128 y; width = in_128 w } ≡ offset_of rules a b
offset_is rules a b rules_kept a_kept b_kept x y w x_is y_is w_is =
    let h = row_sizes a a_kept in
    let k = row_sizes b b_kept in
    let width = plus (width_reads rules a b rules_kept a_kept b_kept) (number k.r (lit< tt)) (lit< tt) in
    λ i. record {
      x = difference x k.x h.x x_is (lit< tt) (lit< tt) (lit< tt) i;
      y = difference y k.y h.y y_is (lit< tt) (lit< tt) (lit< tt) i;
      width = widened w width w_is (lit< tt) i;
    }

pub gain_is : (a b : Row) → IsBoundedRow a → IsBoundedRow b → (x y w : ℤ) → x ≡ less (in_64 b.vx) (in_64 a.vx) → y ≡ less (in_64 b.vy) (in_64 a.vy)
    → w ≡ more (in_64 a.gr) (in_64 b.gr) → record { x = in_128 x; y = in_128 y; width = in_128 w } ≡ gain_of a b
gain_is a b a_kept b_kept x y w x_is y_is w_is =
    let h = row_sizes a a_kept in
    let k = row_sizes b b_kept in
    let width = plus (number h.gr (lit< tt)) (number k.gr (lit< tt)) (lit< tt) in
    λ i. record {
      x = difference x k.vx h.vx x_is (lit< tt) (lit< tt) (lit< tt) i;
      y = difference y k.vy h.vy y_is (lit< tt) (lit< tt) (lit< tt) i;
      width = widened w width w_is (lit< tt) i;
    }

-- the quadratic of an offset and its gains
in_128_is : {m : ℕ} {z : ℤ} (v : ℤ) → v ≡ z → Abs m z → m < 2 ^ 127 → in_128 v ≡ z
in_128_is {m} {z} v e size small = rw e (to_z-of_z w128 z (fits_128 size small))

pub twice_fits : (offset gain : Offset) → IsOffsetWithin 7372800 offset → IsOffsetWithin 2000 gain → (b : ℤ) → b ≡ product offset gain
    → FitsSigned w128 (pos 2 *ℤ in_128 b)
twice_fits offset gain offset_kept gain_kept b is =
    let size = product_size offset gain offset_kept gain_kept in
    rw (in_128_is b is size (lit< tt)) (fits_128 (abs_mul (abs_lit 2) size) (lit< tt))

pub square_is : (offset gain : Offset) → IsOffsetWithin 7372800 offset → IsOffsetWithin 2000 gain → (a b c : ℤ) → a ≡ product gain gain
    → b ≡ product offset gain → c ≡ product offset offset
    → record { a = in_128 a; b = in_128 (pos 2 *ℤ in_128 b); c = in_128 c } ≡ square_over_time offset gain
square_is offset gain offset_kept gain_kept a b c a_is b_is c_is =
    let size = product_size offset gain offset_kept gain_kept in
    let twice : in_128 (pos 2 *ℤ in_128 b) ≡ pos 2 *ℤ product offset gain =
    rw (in_128_is b b_is size (lit< tt)) (in_128_is (pos 2 *ℤ product offset gain) refl (abs_mul (abs_lit 2) size) (lit< tt)) in
    λ i. record {
      a = in_128_is a a_is (product_size gain gain gain_kept gain_kept) (lit< tt) i;
      b = twice i;
      c = in_128_is c c_is (product_size offset offset offset_kept offset_kept) (lit< tt) i;
    }

below_bound : {m : ℕ} {z : ℤ} (n : ℕ) → Abs m z → m < n → unsigned_abs z < n
below_bound {m} {z} n size small = let h = abs_to m z size in omega arith

pub square_bounded : (offset gain : Offset) → IsOffsetWithin 7372800 offset → IsOffsetWithin 2000 gain → IsBoundedQuad (square_over_time offset gain)
square_bounded offset gain offset_kept gain_kept = record {
  a_bounded = below_bound _ (product_size gain gain gain_kept gain_kept) (lit< tt);
  b_bounded = below_bound _ (abs_mul (abs_lit 2) (product_size offset gain offset_kept gain_kept)) (lit< tt);
  c_bounded = below_bound _ (product_size offset offset offset_kept offset_kept) (lit< tt);
}

-- the line of the heights: the differences on the way to its two coefficients
pub record ExcessReads (least : ℤ) (a b : Row) : Type 0 where
  pub b_one : Reads 20000 (less (in_64 b.vz) (in_64 a.vz)) (b.vz -ℤ a.vz)
  pub b_two : Reads 30000 (less (less (in_64 b.vz) (in_64 a.vz)) (in_64 a.gw)) (b.vz -ℤ a.vz -ℤ a.gw)
  pub b_three : Reads 40000 (less (less (less (in_64 b.vz) (in_64 a.vz)) (in_64 a.gw)) (in_64 b.gw)) (b.vz -ℤ a.vz -ℤ a.gw -ℤ b.gw)
  pub c_one : Reads 7200000 (less (in_64 b.z) (in_64 a.z)) (b.z -ℤ a.z)
  pub c_two : Reads 7800000 (less (less (in_64 b.z) (in_64 a.z)) (in_64 least)) (b.z -ℤ a.z -ℤ least)
  pub c_three : Reads 8400000 (less (less (less (in_64 b.z) (in_64 a.z)) (in_64 least)) (in_64 a.w)) (b.z -ℤ a.z -ℤ least -ℤ a.w)
  pub c_four : Reads 9000000 (less (less (less (less (in_64 b.z) (in_64 a.z)) (in_64 least)) (in_64 a.w)) (in_64 b.w))
      (b.z -ℤ a.z -ℤ least -ℤ a.w -ℤ b.w)

pub excess_reads : (least : ℤ) (a b : Row) → IsWithin (pos 1) (pos 600000) least → IsBoundedRow a → IsBoundedRow b → ExcessReads least a b
excess_reads least a b least_kept a_kept b_kept =
    let h = row_sizes a a_kept in
    let k = row_sizes b b_kept in
    let b_one = minus (number k.vz (lit< tt)) (number h.vz (lit< tt)) (lit< tt) in
    let b_two = minus b_one (number h.gw (lit< tt)) (lit< tt) in
    let b_three = minus b_two (number k.gw (lit< tt)) (lit< tt) in
    let c_one = minus (number k.z (lit< tt)) (number h.z (lit< tt)) (lit< tt) in
    let c_two = minus c_one (number (least_size least least_kept) (lit< tt)) (lit< tt) in
    let c_three = minus c_two (number h.w (lit< tt)) (lit< tt) in
    let c_four = minus c_three (number k.w (lit< tt)) (lit< tt) in
    record { b_one = b_one; b_two = b_two; b_three = b_three; c_one = c_one; c_two = c_two; c_three = c_three; c_four = c_four }

-- and that these fit
pub record ExcessFits (least : ℤ) (a b : Row) : Type 0 where
  pub b_one : FitsSigned w64 (in_64 b.vz -ℤ in_64 a.vz)
  pub b_two : FitsSigned w64 (less (in_64 b.vz) (in_64 a.vz) -ℤ in_64 a.gw)
  pub b_three : FitsSigned w64 (less (less (in_64 b.vz) (in_64 a.vz)) (in_64 a.gw) -ℤ in_64 b.gw)
  pub c_two : FitsSigned w64 (less (in_64 b.z) (in_64 a.z) -ℤ in_64 least)
  pub c_three : FitsSigned w64 (less (less (in_64 b.z) (in_64 a.z)) (in_64 least) -ℤ in_64 a.w)
  pub c_four : FitsSigned w64 (less (less (less (in_64 b.z) (in_64 a.z)) (in_64 least)) (in_64 a.w) -ℤ in_64 b.w)

pub excess_fits : (least : ℤ) (a b : Row) → IsWithin (pos 1) (pos 600000) least → IsBoundedRow a → IsBoundedRow b → ExcessFits least a b
excess_fits least a b least_kept a_kept b_kept =
    let h = row_sizes a a_kept in
    let k = row_sizes b b_kept in
    let s = excess_reads least a b least_kept a_kept b_kept in
    record {
      b_one = minus_fits (number k.vz (lit< tt)) (number h.vz (lit< tt)) (lit< tt);
      b_two = minus_fits s.b_one (number h.gw (lit< tt)) (lit< tt);
      b_three = minus_fits s.b_two (number k.gw (lit< tt)) (lit< tt);
      c_two = minus_fits s.c_one (number (least_size least least_kept) (lit< tt)) (lit< tt);
      c_three = minus_fits s.c_two (number h.w (lit< tt)) (lit< tt);
      c_four = minus_fits s.c_three (number k.w (lit< tt)) (lit< tt);
    }

pub excess_is : (least : ℤ) (a b : Row) → ExcessReads least a b → (v w : ℤ) → v ≡ less (less (less (in_64 b.vz) (in_64 a.vz)) (in_64 a.gw)) (in_64 b.gw)
    → w ≡ less (less (less (less (in_64 b.z) (in_64 a.z)) (in_64 least)) (in_64 a.w)) (in_64 b.w)
    → record { b = in_128 v; c = in_128 w } ≡ excess_of least a b
excess_is least a b s v w v_is w_is = λ i. record { b = widened v s.b_three v_is (lit< tt) i; c = widened w s.c_four w_is (lit< tt) i }

pub excess_bounded : (least : ℤ) (a b : Row) → ExcessReads least a b → IsBoundedLine (excess_of least a b)
excess_bounded least a b s = record {
  b_bounded = below_bound _ s.b_three.size (lit< tt);
  c_bounded = below_bound _ s.c_four.size (lit< tt);
}

-- the line of a level
pub above_is : (level : ℤ) (a : Row) → Abs 3600000 level → IsBoundedRow a → (v w : ℤ) → v ≡ in_64 (pos 0 -ℤ in_64 a.vz) → w ≡ less (in_64 level) (in_64 a.z)
    → record { b = in_128 v; c = in_128 w } ≡ above_of level a
above_is level a size kept v w v_is w_is =
    let h = row_sizes a kept in
    λ i. record {
      b = widened v (negated (number h.vz (lit< tt)) (lit< tt)) v_is (lit< tt) i;
      c = difference w size h.z w_is (lit< tt) (lit< tt) (lit< tt) i;
    }

pub above_bounded : (level : ℤ) (a : Row) → Abs 3600000 level → IsBoundedRow a → IsBoundedLine (above_of level a)
above_bounded level a size kept =
    let h = row_sizes a kept in
    record { b_bounded = below_bound _ (abs_neg h.vz) (lit< tt); c_bounded = below_bound _ (abs_sub size h.z) (lit< tt) }

pub level_size : (both : Bool) → Abs 3600000 (level_of both)
level_size true = record { low = omega (arith, ints); high = omega (arith, ints) }
level_size false = record { low = omega (arith, ints); high = omega (arith, ints) }
