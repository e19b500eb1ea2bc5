use Rattle.std.proofs.Common.{◌≡◌, ◌<◌, ℕ}
use Rattle.std.specs.Int.{bit_at}
use Rattle.mt_meet.specs.Private.Stepping.{Cross}
use Rattle.mt_meet.specs.Private.Boxing.{bounds_at, IsPartMarked}
use Rattle.mt_meet.proofs.boxes.Boxes.mark_crossing.Given as goal

abbrev pub invariant-loop-place : goal.invariant-loop-place
invariant-loop-place l = record {
  kept : (place part : ℕ) → IsPartMarked l.fn.marks place part → IsPartMarked l.marks place part;
  own : (place part : ℕ) → place < l.place → Cross l.own (bounds_at l.self place) → bit_at l.parts part ≡ 1 → IsPartMarked l.marks place part;
}
