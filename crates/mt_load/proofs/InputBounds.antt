-- The numbers of each request are within their bounds.
use Rattle.std.proofs.Common.{ℕ, pos, neg_ℤ, ◌*◌, ◌/◌, ◌%◌, ◌<◌, ◌≤◌, All, arith}
use Rattle.std.proofs.lemmas.Int.{ints}
use Rattle.std.proofs.lemmas.List.Elements.{All-from_recursion}
use Rattle.mt_base.specs.declared.rules.Rules.{Rules}
use Rattle.mt_base.specs.Bounds.{AreBoundedBands, IsBoundedBand, IsWithin}
use Rattle.mt_read.specs.Bounded.{IsBoundedRequest}
use Rattle.mt_load.specs.Draws.{state_after}
use Rattle.mt_load.specs.Input.{bands, coordinate, fix, inputs, plan_of}
use Rattle.mt_load.proofs.DrawLemmas.{drawn_below}
use Rattle.mt_load.proofs.Inputs.{all_inputs}

coordinate_in : (i : ℕ) → i < 8 → IsWithin (neg_ℤ (pos 3686400)) (pos 3686400) (coordinate i)
coordinate_in i below = record { least = omega (arith, ints); most = omega (arith, ints) }

fix_in : (rules : Rules) (k : ℕ) → k < 64 → IsBoundedRequest rules (fix k)
fix_in rules k below = (coordinate_in (k / 8) (omega arith), coordinate_in (k % 8) (omega arith))

band_in : (top speed climb descent : ℕ) → 1 ≤ top → top ≤ 600 → 1 ≤ speed → speed ≤ 1000 → 1 ≤ climb → climb ≤ 10000 → 1 ≤ descent → descent ≤ 10000
    → IsBoundedBand (record { top = top; speed = pos speed; climb = pos climb; descent = pos descent })
band_in top speed climb descent t1 t2 s1 s2 c1 c2 d1 d2 = record {
  top = (t1, t2);
  speed = record { least = omega (arith, ints); most = omega (arith, ints) };
  climb = record { least = omega (arith, ints); most = omega (arith, ints) };
  descent = record { least = omega (arith, ints); most = omega (arith, ints) };
}

bands_in : AreBoundedBands bands
bands_in = record {
  some = omega arith;
  few = omega arith;
  each = All-from_recursion IsBoundedBand bands (
    band_in 245 400 2000 2000 (omega arith) (omega arith) (omega arith) (omega arith) (omega arith) (omega arith) (omega arith) (omega arith),
    (band_in 410 480 2100 2100 (omega arith) (omega arith) (omega arith) (omega arith) (omega arith) (omega arith) (omega arith) (omega arith), tt),
  );
}

plan_in : (rules : Rules) (number n : ℕ) → IsBoundedRequest rules (plan_of number n)
plan_in rules number n =
    let at_below = drawn_below 1200 (state_after 4 (state_after (4 * n) number)) (omega arith) in
    let tens_below = drawn_below 10 (state_after 3 (state_after (4 * n) number)) (omega arith) in
    ((omega (arith, at_below), omega (arith, tens_below), omega (arith, tens_below)), tt)

pub inputs_in : (rules : Rules) (flights number : ℕ) → All (IsBoundedRequest rules) (inputs flights number)
inputs_in rules flights number =
    all_inputs (IsBoundedRequest rules) flights number (fix_in rules) bands_in tt (plan_in rules number) (omega arith, tt)
