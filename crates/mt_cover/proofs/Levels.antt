-- The heights of straight rows with their margins, as the code has them.
use Rattle.std.proofs.Common.{◌≡◌, ℕ, ℤ, pos, neg_ℤ, ◌+ℤ◌, ◌-ℤ◌, ◌*ℤ◌, FitsSigned, w64, arith}
use Rattle.std.proofs.lemmas.Int.{ints}
use Rattle.mt_base.specs.Bounds.{IsKeptOver, IsWithin}
use Rattle.mt_ring.proofs.Ring.{lin, spread}
use Rattle.mt_track.proofs.Bits.{IsNear, in_64, reach_is}
use Rattle.mt_cover.proofs.Numbers.{IsHigh, fits_reach, high_near}

-- a height less a margin, and with it, after some seconds
pub less_after : (z w v g n : ℤ) → ((z +ℤ v *ℤ n) -ℤ (w +ℤ g *ℤ n)) ≡ ((z -ℤ w) +ℤ (v -ℤ g) *ℤ n)
less_after z w v g n = simp spread (omega (arith, lin))

pub more_after : (z w v g n : ℤ) → ((z +ℤ v *ℤ n) +ℤ (w +ℤ g *ℤ n)) ≡ ((z +ℤ w) +ℤ (v +ℤ g) *ℤ n)
more_after z w v g n = simp spread (omega (arith, lin))

difference : (z w : ℤ) → IsWithin (pos 0) (pos 3600000) z → IsWithin (pos 0) (pos 600000) w → IsHigh (z -ℤ w)
difference z w a b = record { least = omega (arith, ints, a.least, b.most); most = omega (arith, ints, a.most, b.least) }

sum : (z w : ℤ) → IsWithin (pos 0) (pos 3600000) z → IsWithin (pos 0) (pos 600000) w → IsHigh (z +ℤ w)
sum z w a b = record { least = omega (arith, ints, a.least, b.least); most = omega (arith, ints, a.most, b.most) }

-- what lies between two heights
between : (a b : ℤ) → IsHigh a → IsHigh (a +ℤ b) → IsNear b
between a b from to = record { least = omega (arith, ints, from.most, to.least); most = omega (arith, ints, from.least, to.most) }

-- a height, its margin and their gains over so many seconds, and their sums and differences, as the code has them
pub record AreAsCoded (z w v g n : ℤ) : Type 0 where
  pub z_is : in_64 z ≡ z
  pub w_is : in_64 w ≡ w
  pub v_is : in_64 v ≡ v
  pub g_is : in_64 g ≡ g
  pub less_is : in_64 (z -ℤ w) ≡ z -ℤ w
  pub more_is : in_64 (z +ℤ w) ≡ z +ℤ w
  pub less_gain : in_64 (v -ℤ g) ≡ v -ℤ g
  pub more_gain : in_64 (v +ℤ g) ≡ v +ℤ g
  pub less_far : in_64 ((v -ℤ g) *ℤ n) ≡ (v -ℤ g) *ℤ n
  pub more_far : in_64 ((v +ℤ g) *ℤ n) ≡ (v +ℤ g) *ℤ n
  pub less_end : in_64 ((z -ℤ w) +ℤ (v -ℤ g) *ℤ n) ≡ (z -ℤ w) +ℤ (v -ℤ g) *ℤ n
  pub more_end : in_64 ((z +ℤ w) +ℤ (v +ℤ g) *ℤ n) ≡ (z +ℤ w) +ℤ (v +ℤ g) *ℤ n
  pub less_fits : FitsSigned w64 ((v -ℤ g) *ℤ n)
  pub more_fits : FitsSigned w64 ((v +ℤ g) *ℤ n)
  pub less_end_fits : FitsSigned w64 ((z -ℤ w) +ℤ (v -ℤ g) *ℤ n)
  pub more_end_fits : FitsSigned w64 ((z +ℤ w) +ℤ (v +ℤ g) *ℤ n)
  pub less : IsHigh (z -ℤ w)
  pub more : IsHigh (z +ℤ w)
  pub least : IsHigh ((z -ℤ w) +ℤ (v -ℤ g) *ℤ n)
  pub most : IsHigh ((z +ℤ w) +ℤ (v +ℤ g) *ℤ n)

pub as_coded : (z w v g : ℤ) (n : ℕ) → IsKeptOver (pos 0) (pos 3600000) (neg_ℤ (pos 10000)) (pos 10000) z v n
    → IsKeptOver (pos 0) (pos 600000) (pos 0) (pos 10000) w g n → AreAsCoded z w v g (pos n)
as_coded z w v g n a b =
    let less = difference z w a.value b.value in
    let more = sum z w a.value b.value in
    let least = rw (less_after z w v g (pos n)) at (difference (z +ℤ v *ℤ pos n) (w +ℤ g *ℤ pos n) a.end b.end) in
    let most = rw (more_after z w v g (pos n)) at (sum (z +ℤ v *ℤ pos n) (w +ℤ g *ℤ pos n) a.end b.end) in
    let down = between (z -ℤ w) ((v -ℤ g) *ℤ pos n) less least in
    let up = between (z +ℤ w) ((v +ℤ g) *ℤ pos n) more most in
    record {
      z_is = reach_is z (record { least = omega (arith, ints, a.value.least); most = omega (arith, ints, a.value.most) });
      w_is = reach_is w (record { least = omega (arith, ints, b.value.least); most = omega (arith, ints, b.value.most) });
      v_is = reach_is v (record { least = omega (arith, ints, a.growth.least); most = omega (arith, ints, a.growth.most) });
      g_is = reach_is g (record { least = omega (arith, ints, b.growth.least); most = omega (arith, ints, b.growth.most) });
      less_is = reach_is (z -ℤ w) (high_near (z -ℤ w) less);
      more_is = reach_is (z +ℤ w) (high_near (z +ℤ w) more);
      less_gain = reach_is (v -ℤ g) (record {
        least = omega (arith, ints, a.growth.least, b.growth.most);
        most = omega (arith, ints, a.growth.most, b.growth.least);
      });
      more_gain = reach_is (v +ℤ g) (record {
        least = omega (arith, ints, a.growth.least, b.growth.least);
        most = omega (arith, ints, a.growth.most, b.growth.most);
      });
      less_far = reach_is ((v -ℤ g) *ℤ pos n) down;
      more_far = reach_is ((v +ℤ g) *ℤ pos n) up;
      less_end = reach_is ((z -ℤ w) +ℤ (v -ℤ g) *ℤ pos n) (high_near ((z -ℤ w) +ℤ (v -ℤ g) *ℤ pos n) least);
      more_end = reach_is ((z +ℤ w) +ℤ (v +ℤ g) *ℤ pos n) (high_near ((z +ℤ w) +ℤ (v +ℤ g) *ℤ pos n) most);
      less_fits = fits_reach ((v -ℤ g) *ℤ pos n) down;
      more_fits = fits_reach ((v +ℤ g) *ℤ pos n) up;
      less_end_fits = fits_reach ((z -ℤ w) +ℤ (v -ℤ g) *ℤ pos n) (high_near ((z -ℤ w) +ℤ (v -ℤ g) *ℤ pos n) least);
      more_end_fits = fits_reach ((z +ℤ w) +ℤ (v +ℤ g) *ℤ pos n) (high_near ((z +ℤ w) +ℤ (v +ℤ g) *ℤ pos n) most);
      less = less;
      more = more;
      least = least;
      most = most;
    }
