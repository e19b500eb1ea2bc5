use Rattle.mt_history.proofs.EntriesPut.{IsPutUpTo}
use Rattle.mt_history.proofs.rebuilding.put_all.Given as goal

abbrev pub invariant-loop-entry : goal.invariant-loop-entry
invariant-loop-entry l = IsPutUpTo l.initial.picture.setup l.entries l.entry-index l.picture
