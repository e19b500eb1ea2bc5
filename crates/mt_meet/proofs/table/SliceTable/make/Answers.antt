use Rattle.std.proofs.Common.{◌*◌, ℕ, ap, arith}
use Rattle.mt_meet.proofs.Boxed.{kept_empty}
use Rattle.mt_meet.proofs.table.SliceTable.make.Goals as goal

pub invariant_of-result : goal.invariant_of-result
invariant_of-result c = rw (c.in_ok-make.ensures, c.in_ok-make-2.ensures) (kept_empty c.args.count _ (omega (arith, c.ranges.count.fits)) (ap (λ (n : ℕ). 2 * n) c.div_ceil.ensures))
