use Rattle.std.proofs.Common.{arith}
use Rattle.mt_meet.proofs.table.SliceTable.next_of.Goals as goal

pub returns-then-not-has_some-clause-next : goal.returns-then-not-has_some-clause-next
returns-then-not-has_some-clause-next c = λ item late below theirs k there meet.
    c.has_some.ensures c.if-not-has_some.true item (omega (arith, late, below)) theirs k there meet.right
