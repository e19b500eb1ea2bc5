use Rattle.std.proofs.Common.{◌≡◌, ◌≤◌, ◌-◌, drop, length}
use Rattle.mt_args.specs.Task.{loading_with, no_loading, set_by}
use Rattle.mt_args.proofs.loading.load.Given as goal

abbrev pub invariant-loop-at : goal.invariant-loop-at
invariant-loop-at l = (l.at ≤ length l.words) × (set_by loading_with no_loading (drop 1 l.words) ≡ set_by loading_with l.loading (drop l.at l.words))

abbrev pub decreases-loop-at : goal.decreases-loop-at
decreases-loop-at l = length l.words - l.at
