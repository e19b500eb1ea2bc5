use Rattle.std.proofs.Common.{◌≡◌, ◌≢◌, ◌<◌, ◌%◌, ℕ, get_or, length}
use Rattle.std.specs.Int.{bit_at}
use Rattle.mt_meet.proofs.marked_items.bits_of_bytes.Given as goal

abbrev pub invariant-loop-place : goal.invariant-loop-place
invariant-loop-place l = record {
  long : length l.bits ≡ 64;
  marked : (place : ℕ) → place < l.place → get_or l.marks.parts place 0 ≢ 0 → bit_at (get_or l.bits place 0) (place % 8) ≡ 1;
}
