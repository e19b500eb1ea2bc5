-- The sizes of a quadratic and a line at whole seconds, in 64 bits.
use Rattle.std.proofs.Common.{◌≡◌, ℕ, ◌^◌, ◌<◌, ◌≤◌, ℤ, pos, ◌+ℤ◌, ◌*ℤ◌, FitsSigned, arith, w64, to_z, of_z, ap, ◌∙◌, lit<}
use Rattle.std.proofs.lemmas.Int.{to_z-of_z}
use mir.Syntax.{w128}
use Rattle.mt_ring.proofs.Ring.{lin, spread}
use Rattle.mt_ring.proofs.Sizes.{Abs, abs_add, abs_from, abs_lit, abs_mul, abs_weaken, fits_64, fits_128}
use Rattle.mt_frac.specs.declared.linear.Linear.{Linear}
use Rattle.mt_frac.specs.declared.quadratic.Quad.{Quad}
use Rattle.mt_frac.specs.Polynomials.{value, line_value, slope}
use Rattle.mt_frac.specs.Signs.{IsBoundedLine, IsBoundedQuad}

pub whole_value : (a b c k : ℤ) → (a *ℤ k +ℤ b) *ℤ k +ℤ c ≡ value a b c k (pos 1)
whole_value a b c k = simp spread (omega (arith, lin))

pub whole_slope : (a b k : ℤ) → pos 2 *ℤ (a *ℤ k) +ℤ b ≡ slope a b k (pos 1)
whole_slope a b k = simp spread (omega (arith, lin))

pub whole_line : (b c k : ℤ) → b *ℤ k +ℤ c ≡ line_value b c k (pos 1)
whole_line b c k = omega (arith, lin)

pub record GapFits (gap : Quad) (k : ℕ) : Type 0 where
  pub wide_a : FitsSigned w128 gap.a
  pub wide_b : FitsSigned w128 gap.b
  pub wide_c : FitsSigned w128 gap.c
  pub fits_a : FitsSigned w64 gap.a
  pub fits_b : FitsSigned w64 gap.b
  pub fits_c : FitsSigned w64 gap.c
  pub fits_k : FitsSigned w64 (pos k)
  pub fits_rise : FitsSigned w64 (gap.a *ℤ pos k)
  pub fits_sum : FitsSigned w64 (gap.a *ℤ pos k +ℤ gap.b)
  pub fits_product : FitsSigned w64 ((gap.a *ℤ pos k +ℤ gap.b) *ℤ pos k)
  pub fits_all : FitsSigned w64 ((gap.a *ℤ pos k +ℤ gap.b) *ℤ pos k +ℤ gap.c)
  pub fits_twice : FitsSigned w64 (pos 2 *ℤ (gap.a *ℤ pos k))
  pub fits_slope : FitsSigned w64 (pos 2 *ℤ (gap.a *ℤ pos k) +ℤ gap.b)

pub gap_fits : (gap : Quad) (k : ℕ) → IsBoundedQuad gap → k ≤ 16384 → GapFits gap k
gap_fits gap k bounded short =
    let a : Abs 67108864 gap.a = abs_from _ gap.a (omega (arith, bounded.a_bounded)) in
    let b : Abs 1099511627776 gap.b = abs_from _ gap.b (omega (arith, bounded.b_bounded)) in
    let c : Abs 1125899906842624 gap.c = abs_from _ gap.c (omega (arith, bounded.c_bounded)) in
    let s : Abs 16384 (pos k) = abs_weaken (abs_lit k) short in
    let rise = abs_mul a s in
    let sum = abs_add rise b in
    record {
      wide_a = fits_128 a (lit< tt);
      wide_b = fits_128 b (lit< tt);
      wide_c = fits_128 c (lit< tt);
      fits_a = fits_64 a (lit< tt);
      fits_b = fits_64 b (lit< tt);
      fits_c = fits_64 c (lit< tt);
      fits_k = fits_64 s (lit< tt);
      fits_rise = fits_64 rise (lit< tt);
      fits_sum = fits_64 sum (lit< tt);
      fits_product = fits_64 (abs_mul sum s) (lit< tt);
      fits_all = fits_64 (abs_add (abs_mul sum s) c) (lit< tt);
      fits_twice = fits_64 (abs_mul (abs_lit 2) rise) (lit< tt);
      fits_slope = fits_64 (abs_add (abs_mul (abs_lit 2) rise) b) (lit< tt);
    }

pub record LineFits (line : Linear) (k : ℕ) : Type 0 where
  pub wide_b : FitsSigned w128 line.b
  pub wide_c : FitsSigned w128 line.c
  pub fits_b : FitsSigned w64 line.b
  pub fits_c : FitsSigned w64 line.c
  pub fits_k : FitsSigned w64 (pos k)
  pub fits_product : FitsSigned w64 (line.b *ℤ pos k)
  pub fits_all : FitsSigned w64 (line.b *ℤ pos k +ℤ line.c)

pub line_fits : (line : Linear) (k : ℕ) → IsBoundedLine line → k ≤ 16384 → LineFits line k
line_fits line k bounded short =
    let b : Abs 262144 line.b = abs_from _ line.b (omega (arith, bounded.b_bounded)) in
    let c : Abs 4294967296 line.c = abs_from _ line.c (omega (arith, bounded.c_bounded)) in
    let s : Abs 16384 (pos k) = abs_weaken (abs_lit k) short in
    record {
      wide_b = fits_128 b (lit< tt);
      wide_c = fits_128 c (lit< tt);
      fits_b = fits_64 b (lit< tt);
      fits_c = fits_64 c (lit< tt);
      fits_k = fits_64 s (lit< tt);
      fits_product = fits_64 (abs_mul b s) (lit< tt);
      fits_all = fits_64 (abs_add (abs_mul b s) c) (lit< tt);
    }

-- a line's slope, narrowed to 64 bits
pub narrow : (line : Linear) → IsBoundedLine line → to_z w64 (of_z w64 (to_z w128 (of_z w128 line.b))) ≡ line.b
narrow line bounded =
    let b : Abs 262144 line.b = abs_from _ line.b (omega (arith, bounded.b_bounded)) in
    ap (λ (z : ℤ). to_z w64 (of_z w64 z)) (to_z-of_z w128 line.b (fits_128 b (lit< tt))) ∙ to_z-of_z w64 line.b (fits_64 b (lit< tt))

pub wide_fits : (gap : Quad) → IsBoundedQuad gap → FitsSigned w128 gap.a
wide_fits gap bounded =
    let a : Abs 67108864 gap.a = abs_from _ gap.a (omega (arith, bounded.a_bounded)) in
    fits_128 a (lit< tt)

-- the value of a line any number of seconds later, in 128 bits
pub record AfterFits (line : Linear) (n : ℕ) : Type 0 where
  pub fits_b : FitsSigned w128 line.b
  pub fits_c : FitsSigned w128 line.c
  pub fits_n : FitsSigned w128 (pos n)
  pub fits_gain : FitsSigned w128 (line.b *ℤ pos n)
  pub fits_all : FitsSigned w128 (line.b *ℤ pos n +ℤ line.c)

pub after_fits : (line : Linear) (n : ℕ) → IsBoundedLine line → n < 2 ^ 32 → AfterFits line n
after_fits line n bounded few =
    let b : Abs 262144 line.b = abs_from _ line.b (omega (arith, bounded.b_bounded)) in
    let c : Abs 4294967296 line.c = abs_from _ line.c (omega (arith, bounded.c_bounded)) in
    let s : Abs 4294967296 (pos n) = abs_weaken (abs_lit n) (omega (arith, few)) in
    let gain = abs_mul b s in
    record {
      fits_b = fits_128 b (lit< tt);
      fits_c = fits_128 c (lit< tt);
      fits_n = fits_128 s (lit< tt);
      fits_gain = fits_128 gain (lit< tt);
      fits_all = fits_128 (abs_add gain c) (lit< tt);
    }
