-- The bytes so far are the key's, and none is a space.
use Rattle.std.proofs.Common.{◌≡◌, ℕ, ◌<◌, ◌≤◌, ◌-◌, ◌==◌, length, get_or, false}
use Rattle.mt_json.proofs.fields.is_first.Given as goal

abbrev pub invariant-loop-at : goal.invariant-loop-at
invariant-loop-at l = (l.at ≤ length l.key) × ((i : ℕ) → i < l.at → (get_or l.words i 0 ≡ get_or l.key i 0) × ((get_or l.words i 0 == 32) ≡ false))

abbrev pub decreases-loop-at : goal.decreases-loop-at
decreases-loop-at l = length l.key - l.at
