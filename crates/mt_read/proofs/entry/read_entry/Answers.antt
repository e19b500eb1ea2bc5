use Rattle.mt_read.proofs.BoundedLines.{held_answer_bounded}
use Rattle.mt_read.proofs.TimedEntries.{held_answer_full}
use Rattle.mt_read.proofs.entry.read_entry.Goals as goal

pub returns-clause-bounded : goal.returns-clause-bounded
returns-clause-bounded c = rw c.in_ok-who.was at (held_answer_bounded c.args.bytes.now c.read_bytes.result c.read_bytes.ensures)

pub returns-clause-timed : goal.returns-clause-timed
returns-clause-timed c = rw c.in_ok-who.was at (held_answer_full c.args.bytes.now c.read_bytes.result c.read_bytes.ensures)
