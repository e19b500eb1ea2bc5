use Rattle.std.proofs.Common.{◌≡◌, ◌≢◌, ◌<◌, ℕ, None, get_or, length}
use Rattle.mt_meet.specs.Private.Boxing.{bounds_in}
use Rattle.mt_meet.proofs.windows.clear.Given as goal

abbrev pub invariant-loop-window : goal.invariant-loop-window
invariant-loop-window l = record {
  full : length l.page ≡ 64;
  beside : (remainder other : ℕ) → other < 64 → other ≢ l.place
      → bounds_in (get_or l.page remainder None) other ≡ bounds_in (get_or l.fn.page remainder None) other;
}
