use Rattle.std.proofs.Common.{arith}
use Rattle.mt_edges.proofs.Growth.{made}
use Rattle.mt_edges.proofs.table.Table.make.Goals as goal

pub returns-clause-kept : goal.returns-clause-kept
returns-clause-kept c = rw (c.new.ensures.items, c.new-2.ensures.items) (made _ _ _ _ (omega arith) c.in_ok-make.ensures.next c.in_ok-make.ensures.prev)
