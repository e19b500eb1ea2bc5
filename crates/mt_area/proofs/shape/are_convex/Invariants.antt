use Rattle.std.proofs.Common.{ℕ, ◌<◌}
use Rattle.mt_base.specs.Area.{HasAllLeft}
use Rattle.mt_area.proofs.shape.are_convex.Given as goal

abbrev pub invariant-loop-i : goal.invariant-loop-i
invariant-loop-i l = (m : ℕ) → m < l.i → HasAllLeft l.corners m
