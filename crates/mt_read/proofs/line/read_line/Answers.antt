use Rattle.mt_read.proofs.BoundedLines.{answer_bounded}
use Rattle.mt_read.proofs.line.read_line.Goals as goal

pub returns-clause-bounded : goal.returns-clause-bounded
returns-clause-bounded c = answer_bounded c.args.sender c.args.rules.now c.args.bytes.now c.read_bytes.result c.read_bytes.ensures
