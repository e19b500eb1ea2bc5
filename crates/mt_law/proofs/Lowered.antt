-- How far versions are lowered.
use Rattle.std.proofs.Common.{◌≡◌, ℕ, ◌+◌, ◌<◌, ◌≤◌, arith}
use Rattle.std.proofs.lemmas.Bool.Decides.{nat_tests}
use Rattle.std.specs.Prelude.{nat_lt}
use Rattle.mt_base.specs.StrikeOut.{lowered, one_if}

below_place : (i v : ℕ) → v ≤ i → one_if (nat_lt i v) ≡ 0
below_place i v most = grind (arith, nat_tests)

above_place : (i v : ℕ) → i < v → one_if (nat_lt i v) ≡ 1
above_place i v more = grind (arith, nat_tests)

pub lowered_before : (i j v : ℕ) → i < j → v ≤ i → lowered i j v ≡ v
lowered_before i j v order most = omega (arith, below_place i v most, below_place j v (omega arith))

pub lowered_between : (i j v : ℕ) → i < v → v ≤ j → lowered i j v + 1 ≡ v
lowered_between i j v least most = omega (arith, above_place i v least, below_place j v most)

pub lowered_after : (i j v : ℕ) → i < j → j < v → lowered i j v + 2 ≡ v
lowered_after i j v order least = omega (arith, above_place i v (omega arith), above_place j v least)
