use Rattle.std.proofs.Common.{◌≡◌, ◌≤◌, ◌<◌, ℕ, Some, slice_get}
use Rattle.mt_base.specs.declared.command.Entry.{Entry}
use Rattle.mt_probe.specs.Prepared.{MakesStrand}
use Rattle.mt_picture.proofs.later.is_one_made.Given as goal

abbrev pub invariant-loop-n : goal.invariant-loop-n
invariant-loop-n l = (j : ℕ) (e : Entry) → l.version ≤ j → j < l.n → slice_get l.history j ≡ Some e → ¬ MakesStrand e.command
