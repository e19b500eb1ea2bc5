-- The sums and products of each function fit 128 bits.
use Rattle.std.proofs.Common.{◌≡◌, ℕ, ◌+◌, ◌<◌, ◌^◌, ℤ, pos, ◌+ℤ◌, ◌-ℤ◌, ◌*ℤ◌, ◌≤ℤ◌, ◌<ℤ◌, unsigned_abs, FitsSigned, arith, lit<}
use Rattle.std.proofs.lemmas.Int.{ints}
use mir.Syntax.{w128}
use Rattle.mt_frac.specs.declared.fraction.Frac.{Frac}
use Rattle.mt_frac.specs.declared.quadratic.Quad.{Quad}
use Rattle.mt_frac.specs.declared.linear.Linear.{Linear}
use Rattle.mt_frac.specs.declared.end.End.{End}
use Rattle.mt_frac.specs.Meeting.{IsBoundedSide}
use Rattle.mt_frac.specs.Polynomials.{line_value}
use Rattle.mt_frac.specs.Signs.{IsBoundedQuad, IsBoundedLine}
use Rattle.mt_ring.proofs.Ring.{lin, spread}
use Rattle.mt_ring.proofs.Sizes.{Abs, abs_from, abs_to, abs_lit, abs_add, abs_sub, abs_mul, fits_128}

-- a positive number below m is at most m in size
within : (m : ℕ) (d : ℤ) → pos 1 ≤ℤ d → d <ℤ pos m → Abs m d
within m d d+ h = record { low = omega (arith, ints); high = omega (arith, ints) }

at_most : (m : ℕ) (z : ℤ) → unsigned_abs z < m → Abs m z
at_most m z h = abs_from m z (omega arith)

-- a n n + b n d + c d d
pub record ValueFits (a b c n d : ℤ) : Type 0 where
  pub fits_a : FitsSigned w128 a
  pub fits_b : FitsSigned w128 b
  pub fits_c : FitsSigned w128 c
  pub fits_n : FitsSigned w128 n
  pub fits_d : FitsSigned w128 d
  pub fits_an : FitsSigned w128 (a *ℤ n)
  pub fits_ann : FitsSigned w128 (a *ℤ n *ℤ n)
  pub fits_bn : FitsSigned w128 (b *ℤ n)
  pub fits_bnd : FitsSigned w128 (b *ℤ n *ℤ d)
  pub fits_cd : FitsSigned w128 (c *ℤ d)
  pub fits_cdd : FitsSigned w128 (c *ℤ d *ℤ d)
  pub fits_two : FitsSigned w128 (a *ℤ n *ℤ n +ℤ b *ℤ n *ℤ d)
  pub fits_all : FitsSigned w128 (a *ℤ n *ℤ n +ℤ b *ℤ n *ℤ d +ℤ c *ℤ d *ℤ d)

pub value_fits : (q : Quad) (at : Frac) → IsBoundedQuad q → ValueFits q.a q.b q.c at.num at.den
value_fits q at bounds =
    let ka = at_most (2 ^ 26) q.a bounds.a_bounded in
    let kb = at_most (2 ^ 40) q.b bounds.b_bounded in
    let kc = at_most (2 ^ 50) q.c bounds.c_bounded in
    let kn = at_most (2 ^ 32) at.num at.num_bounded in
    let kd = within (2 ^ 18) at.den at.den_positive at.den_bounded in
    let ann = abs_mul (abs_mul ka kn) kn in
    let bnd = abs_mul (abs_mul kb kn) kd in
    let cdd = abs_mul (abs_mul kc kd) kd in
    record {
      fits_a = fits_128 ka (lit< tt);
      fits_b = fits_128 kb (lit< tt);
      fits_c = fits_128 kc (lit< tt);
      fits_n = fits_128 kn (lit< tt);
      fits_d = fits_128 kd (lit< tt);
      fits_an = fits_128 (abs_mul ka kn) (lit< tt);
      fits_ann = fits_128 ann (lit< tt);
      fits_bn = fits_128 (abs_mul kb kn) (lit< tt);
      fits_bnd = fits_128 bnd (lit< tt);
      fits_cd = fits_128 (abs_mul kc kd) (lit< tt);
      fits_cdd = fits_128 cdd (lit< tt);
      fits_two = fits_128 (abs_add ann bnd) (lit< tt);
      fits_all = fits_128 (abs_add (abs_add ann bnd) cdd) (lit< tt);
    }

-- 2 a n + b d
pub record SlopeFits (a b n d : ℤ) : Type 0 where
  pub fits_a : FitsSigned w128 a
  pub fits_b : FitsSigned w128 b
  pub fits_n : FitsSigned w128 n
  pub fits_d : FitsSigned w128 d
  pub fits_2a : FitsSigned w128 (pos 2 *ℤ a)
  pub fits_2an : FitsSigned w128 (pos 2 *ℤ a *ℤ n)
  pub fits_bd : FitsSigned w128 (b *ℤ d)
  pub fits_all : FitsSigned w128 (pos 2 *ℤ a *ℤ n +ℤ b *ℤ d)

pub slope_fits : (q : Quad) (at : Frac) → IsBoundedQuad q → SlopeFits q.a q.b at.num at.den
slope_fits q at bounds =
    let ka = at_most (2 ^ 26) q.a bounds.a_bounded in
    let kb = at_most (2 ^ 40) q.b bounds.b_bounded in
    let kn = at_most (2 ^ 32) at.num at.num_bounded in
    let kd = within (2 ^ 18) at.den at.den_positive at.den_bounded in
    let twice = abs_mul (abs_lit 2) ka in
    record {
      fits_a = fits_128 ka (lit< tt);
      fits_b = fits_128 kb (lit< tt);
      fits_n = fits_128 kn (lit< tt);
      fits_d = fits_128 kd (lit< tt);
      fits_2a = fits_128 twice (lit< tt);
      fits_2an = fits_128 (abs_mul twice kn) (lit< tt);
      fits_bd = fits_128 (abs_mul kb kd) (lit< tt);
      fits_all = fits_128 (abs_add (abs_mul twice kn) (abs_mul kb kd)) (lit< tt);
    }

-- b b - 4 a c
pub record DiscriminantFits (a b c : ℤ) : Type 0 where
  pub fits_a : FitsSigned w128 a
  pub fits_b : FitsSigned w128 b
  pub fits_c : FitsSigned w128 c
  pub fits_bb : FitsSigned w128 (b *ℤ b)
  pub fits_4a : FitsSigned w128 (pos 4 *ℤ a)
  pub fits_4ac : FitsSigned w128 (pos 4 *ℤ a *ℤ c)
  pub fits_all : FitsSigned w128 (b *ℤ b -ℤ pos 4 *ℤ a *ℤ c)

pub discriminant_fits : (q : Quad) → IsBoundedQuad q → DiscriminantFits q.a q.b q.c
discriminant_fits q bounds =
    let ka = at_most (2 ^ 26) q.a bounds.a_bounded in
    let kb = at_most (2 ^ 40) q.b bounds.b_bounded in
    let kc = at_most (2 ^ 50) q.c bounds.c_bounded in
    let fourfold = abs_mul (abs_lit 4) ka in
    record {
      fits_a = fits_128 ka (lit< tt);
      fits_b = fits_128 kb (lit< tt);
      fits_c = fits_128 kc (lit< tt);
      fits_bb = fits_128 (abs_mul kb kb) (lit< tt);
      fits_4a = fits_128 fourfold (lit< tt);
      fits_4ac = fits_128 (abs_mul fourfold kc) (lit< tt);
      fits_all = fits_128 (abs_sub (abs_mul kb kb) (abs_mul fourfold kc)) (lit< tt);
    }

-- b n + c d
pub record LineFits (b c n d : ℤ) : Type 0 where
  pub fits_b : FitsSigned w128 b
  pub fits_c : FitsSigned w128 c
  pub fits_n : FitsSigned w128 n
  pub fits_d : FitsSigned w128 d
  pub fits_bn : FitsSigned w128 (b *ℤ n)
  pub fits_cd : FitsSigned w128 (c *ℤ d)
  pub fits_all : FitsSigned w128 (b *ℤ n +ℤ c *ℤ d)

pub line_fits : (line : Linear) (at : Frac) → IsBoundedLine line → LineFits line.b line.c at.num at.den
line_fits line at bounds =
    let kb = at_most (2 ^ 18) line.b bounds.b_bounded in
    let kc = at_most (2 ^ 32) line.c bounds.c_bounded in
    let kn = at_most (2 ^ 32) at.num at.num_bounded in
    let kd = within (2 ^ 18) at.den at.den_positive at.den_bounded in
    record {
      fits_b = fits_128 kb (lit< tt);
      fits_c = fits_128 kc (lit< tt);
      fits_n = fits_128 kn (lit< tt);
      fits_d = fits_128 kd (lit< tt);
      fits_bn = fits_128 (abs_mul kb kn) (lit< tt);
      fits_cd = fits_128 (abs_mul kc kd) (lit< tt);
      fits_all = fits_128 (abs_add (abs_mul kb kn) (abs_mul kc kd)) (lit< tt);
    }

-- the same for a line of greater numbers, at an end of an interval
pub side_fits : (line : Linear) (at : End) → IsBoundedSide line → LineFits line.b line.c at.num at.den
side_fits line at bounds =
    let kb = at_most (2 ^ 40) line.b bounds.b_bounded in
    let kc = at_most (2 ^ 50) line.c bounds.c_bounded in
    let kn = at_most (2 ^ 50) at.num at.num_bounded in
    let kd = within (2 ^ 40) at.den at.den_positive at.den_bounded in
    record {
      fits_b = fits_128 kb (lit< tt);
      fits_c = fits_128 kc (lit< tt);
      fits_n = fits_128 kn (lit< tt);
      fits_d = fits_128 kd (lit< tt);
      fits_bn = fits_128 (abs_mul kb kn) (lit< tt);
      fits_cd = fits_128 (abs_mul kc kd) (lit< tt);
      fits_all = fits_128 (abs_add (abs_mul kb kn) (abs_mul kc kd)) (lit< tt);
    }

-- the cross products m d and n e
pub record CrossFits (m e n d : ℤ) : Type 0 where
  pub fits_m : FitsSigned w128 m
  pub fits_e : FitsSigned w128 e
  pub fits_n : FitsSigned w128 n
  pub fits_d : FitsSigned w128 d
  pub fits_md : FitsSigned w128 (m *ℤ d)
  pub fits_ne : FitsSigned w128 (n *ℤ e)

pub cross_fits : (f g : Frac) → CrossFits f.num f.den g.num g.den
cross_fits f g =
    let km = at_most (2 ^ 32) f.num f.num_bounded in
    let ke = within (2 ^ 18) f.den f.den_positive f.den_bounded in
    let kn = at_most (2 ^ 32) g.num g.num_bounded in
    let kd = within (2 ^ 18) g.den g.den_positive g.den_bounded in
    record {
      fits_m = fits_128 km (lit< tt);
      fits_e = fits_128 ke (lit< tt);
      fits_n = fits_128 kn (lit< tt);
      fits_d = fits_128 kd (lit< tt);
      fits_md = fits_128 (abs_mul km kd) (lit< tt);
      fits_ne = fits_128 (abs_mul kn ke) (lit< tt);
    }

-- a number and its negation
pub record NegationFits (z : ℤ) : Type 0 where
  pub fits_z : FitsSigned w128 z
  pub fits_minus : FitsSigned w128 (pos 0 -ℤ z)

pub negation_fits : (z : ℤ) → unsigned_abs z < 2 ^ 50 → NegationFits z
negation_fits z bounded =
    let k = at_most (2 ^ 50) z bounded in
    record { fits_z = fits_128 k (lit< tt); fits_minus = fits_128 (abs_sub (abs_lit 0) k) (lit< tt) }

-- a negation is as great in size
pub minus_bounded : (m : ℕ) (z : ℤ) → unsigned_abs z < m → unsigned_abs (pos 0 -ℤ z) < m
minus_bounded m z bounded =
    let k = abs_from (unsigned_abs z) z (omega arith) in
    let size = abs_to (0 + unsigned_abs z) (pos 0 -ℤ z) (abs_sub (abs_lit 0) k) in
    omega arith

-- a line is 0 at each of the two forms of its root
pub root_above : (b c : ℤ) → line_value b c (pos 0 -ℤ c) b ≡ pos 0
root_above b c = simp spread (omega (arith, lin))

pub root_below : (b c : ℤ) → line_value b c c (pos 0 -ℤ b) ≡ pos 0
root_below b c = simp spread (omega (arith, lin))
