use Rattle.std.proofs.Common.{◌≡◌, ◌≢◌, ◌<◌, ◌/◌, ◌%◌, ℕ, None, get_or, length}
use Rattle.mt_cover.specs.Sliced.{Have, slice_at}
use Rattle.mt_meet.specs.Private.Boxing.{bounds_in}
use Rattle.mt_meet.specs.Private.Stepping.{IsBoxedBy}
use Rattle.mt_meet.proofs.windows.put_slices.Given as goal

abbrev pub invariant-loop-window : goal.invariant-loop-window
invariant-loop-window l = record {
  full : length l.page ≡ 64;
  own : (k : ℕ) → Have l.slices k → k / 256 < l.window → IsBoxedBy (bounds_in (get_or l.page (k / 256 % 64) None) l.place) l.slices.rvsm (slice_at l.slices k);
  beside : (remainder other : ℕ) → other < 64 → other ≢ l.place
      → bounds_in (get_or l.page remainder None) other ≡ bounds_in (get_or l.fn.page remainder None) other;
}
