use Rattle.std.proofs.Common.{◌+◌, arith}
use Rattle.mt_history.proofs.Cutting.{cut_at, uncut_at}
use Rattle.mt_history.proofs.reading.first_line.Goals as goal

pub returns-then-byte-eq10-clause-lines : goal.returns-then-byte-eq10-clause-lines
returns-then-byte-eq10-clause-lines c =
    cut_at c.args.bytes.now c.loop-end.end (c.loop-end.end + 1) (omega arith) c.loop-end.invariant c.loop-end-test.true c.if-byte-eq10.true

pub returns-clause-lines : goal.returns-clause-lines
returns-clause-lines c = uncut_at c.args.bytes.now (λ k below. c.loop-end.invariant k (omega (arith, below))) c.requires
