use Rattle.std.proofs.Common.{◌≢◌, ℕ, ◌<◌, pos}
use Rattle.mt_base.specs.Area.{LiesLeft, corner, place_after}
use Rattle.mt_area.proofs.shape.has_all_left.Given as goal

abbrev pub invariant-loop-k : goal.invariant-loop-k
invariant-loop-k l = (m : ℕ) → m < l.k → m ≢ l.i → m ≢ place_after l.corners l.i
    → LiesLeft (corner l.corners l.i) (corner l.corners (place_after l.corners l.i)) (corner l.corners m).0 (corner l.corners m).1 (pos 1)
