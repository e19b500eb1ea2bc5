use Rattle.std.proofs.Common.{◌≡◌, ◌≤◌, ◌<◌, ℕ, get_or}
use Rattle.std.specs.Int.{bit_at}
use Rattle.mt_meet.proofs.marked_items.bits_of_eight.Given as goal

abbrev pub invariant-loop-place : goal.invariant-loop-place
invariant-loop-place l = (place bit : ℕ) → l.from ≤ place → place < l.place → bit_at (get_or l.bytes place 0) bit ≡ 1 → bit_at l.all bit ≡ 1
