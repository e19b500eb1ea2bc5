use Rattle.std.proofs.Common.{None, arith}
use Rattle.mt_paged.proofs.Rows.{equal_rows}
use Rattle.mt_paged.proofs.paged.Paged.make.Goals as goal

pub invariant_of-result : goal.invariant_of-result
invariant_of-result g c = rw c.in_ok-new.ensures.ok (equal_rows c.args.n _ _ None c.in_ok-pages.ensures (omega (arith, c.div_ceil.ensures))).0

pub returns : goal.returns
returns g c = rw c.in_ok-new.ensures.ok (equal_rows c.args.n _ _ None c.in_ok-pages.ensures (omega (arith, c.div_ceil.ensures))).1
