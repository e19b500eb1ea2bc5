use Rattle.std.proofs.Common.{◌≡◌, ◌≤◌, ◌-◌, drop, length}
use Rattle.mt_args.specs.Task.{serving_with, no_serving, set_by}
use Rattle.mt_args.proofs.serving.serve.Given as goal

abbrev pub invariant-loop-at : goal.invariant-loop-at
invariant-loop-at l = (l.at ≤ length l.words) × (set_by serving_with no_serving (drop 1 l.words) ≡ set_by serving_with l.serving (drop l.at l.words))

abbrev pub decreases-loop-at : goal.decreases-loop-at
decreases-loop-at l = length l.words - l.at
