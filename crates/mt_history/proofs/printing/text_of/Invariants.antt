use Rattle.std.proofs.Common.{◌≡◌, take}
use Rattle.mt_history.specs.Printed.{printed}
use Rattle.mt_history.proofs.printing.text_of.Given as goal

abbrev pub invariant-loop-entry : goal.invariant-loop-entry
invariant-loop-entry l = l.bytes.items ≡ printed (take l.entry-index l.entries)
