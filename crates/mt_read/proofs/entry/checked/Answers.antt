use Rattle.std.proofs.Common.{[]}
use Rattle.mt_read.specs.Table.{entry_layout}
use Rattle.mt_read.proofs.ReadingLemmas.{nothing, read_is, stops}
use Rattle.mt_read.proofs.entry.checked.Goals as goal

pub returns-in_err-faults : goal.returns-in_err-faults
returns-in_err-faults c =
    stops c.from_residual-in_err-faults.result c.in_err-faults.field-0.0 _ c.from_residual-in_err-faults.ensures.1 (read_is _ _ _ _ _ _ (entry_layout
    c.args.word) (λ _. []) _ _ _ c.of-reading.ensures c.in_ok-command.ensures c.actor-who.ensures (nothing _) c.in_err-faults.ensures)

pub returns : goal.returns
returns c =
    read_is _ _ _ _ _ _ (entry_layout c.args.word) (λ _. []) _ _ _ c.of-reading.ensures c.in_ok-command.ensures c.actor-who.ensures (nothing _)
    c.in_ok-faults.ensures
