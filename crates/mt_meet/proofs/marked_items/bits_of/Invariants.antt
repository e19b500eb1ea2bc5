use Rattle.std.proofs.Common.{◌≡◌, ◌≢◌, ◌≤◌, ◌<◌, ◌+◌, ◌-◌, ◌*◌, ◌^◌, ℕ, get_or}
use Rattle.std.specs.Int.{bit_at}
use Rattle.mt_meet.proofs.marked_items.bits_of.Given as goal

abbrev pub invariant-loop-group : goal.invariant-loop-group
invariant-loop-group l = record {
  fits : l.items < 2 ^ (8 * l.group);
  marked : (place : ℕ) → 64 ≤ place + 8 * l.group → place < 64 → get_or l.marks.parts place 0 ≢ 0 → bit_at l.items (place + 8 * l.group - 64) ≡ 1;
}
