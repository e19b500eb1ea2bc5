use Rattle.std.proofs.Common.{◌≡◌, ◌-ℤ◌, neg_ℤ, pos, arith, to_z, of_z, w64, refl}
use Rattle.std.proofs.lemmas.Int.{ints}
use Rattle.mt_watch.proofs.Sizes.{not_beyond}
use Rattle.mt_watch.proofs.watching.is_vertical.Goals as goal

pub overflow_sub-result : goal.overflow_sub-result
overflow_sub-result c = omega (arith, ints)

pub returns-then-above-rules : goal.returns-then-above-rules
returns-then-above-rules c =
    let tolerance : to_z w64 (of_z w64 c.args.rules.now.tv) ≡ c.args.rules.now.tv = omega (arith, ints) in
    let above : to_z w64 (of_z w64 (to_z w64 (of_z w64 c.args.report.now.z) -ℤ to_z w64 (of_z w64 c.args.row.now.z))) ≡ c.args.report.now.z -ℤ c.args.row.now.z =
    omega (arith, ints) in
    let is_above = rw (tolerance, above) at c.if-above-rules.true in
    rw (tolerance, above, is_above) refl

pub returns-else-above-rules : goal.returns-else-above-rules
returns-else-above-rules c =
    let tolerance : to_z w64 (of_z w64 c.args.rules.now.tv) ≡ c.args.rules.now.tv = omega (arith, ints) in
    let above : to_z w64 (of_z w64 (to_z w64 (of_z w64 c.args.report.now.z) -ℤ to_z w64 (of_z w64 c.args.row.now.z))) ≡ c.args.report.now.z -ℤ c.args.row.now.z =
    omega (arith, ints) in
    let below : to_z w64 (of_z w64 (pos 0 -ℤ (c.args.report.now.z -ℤ c.args.row.now.z))) ≡ neg_ℤ (c.args.report.now.z -ℤ c.args.row.now.z) = omega (arith, ints) in
    let not_above = not_beyond c.args.rules.now.tv (c.args.report.now.z -ℤ c.args.row.now.z) (omega (arith, ints)) in
    rw (tolerance, above, below, not_above) refl
