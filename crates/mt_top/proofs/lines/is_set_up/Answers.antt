use Rattle.std.proofs.Common.{refl}
use Rattle.mt_top.proofs.lines.is_set_up.Goals as goal

pub returns-then-until_begun : goal.returns-then-until_begun
returns-then-until_begun g c = rw c.if-until_begun.true c.has_begun.ensures

pub returns-else-until_begun : goal.returns-else-until_begun
returns-else-until_begun g c = rw c.if-until_begun.false refl
