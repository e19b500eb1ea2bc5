use Rattle.std.proofs.Common.{◌/◌, ◌<◌, ℕ, get_or, length}
use Rattle.mt_cover.specs.Sliced.{Have}
use Rattle.mt_meet.specs.Private.Boxing.{IsGuardedAt, no_window}
use Rattle.mt_meet.specs.declared.subject.Window.{Window}
use Rattle.mt_meet.proofs.subject.guarded_windows.Given as goal

abbrev pub invariant-loop-window : goal.invariant-loop-window
invariant-loop-window l = record {
  few : (place : ℕ) → place < length l.windows.items → Window.remainder (get_or l.windows.items place no_window) < 64;
  each : (k : ℕ) → Have l.slices k → k / 256 < l.window → IsGuardedAt l.rules l.slices l.windows.items k;
}
