use Rattle.std.proofs.Common.{◌≡◌, take}
use Rattle.mt_base.proofs.command.Listed+Entry.part.Given as goal

abbrev pub invariant-loop-entry : goal.invariant-loop-entry
invariant-loop-entry l = l.part ≡ take l.entry-index l.entry-items
