use Rattle.std.proofs.Common.{ℕ, ◌-◌, ◌+◌, ◌<◌, ◌≤◌}
use Rattle.mt_track.specs.Seconds.{HasSome}
use Rattle.mt_track.proofs.Halving.{IsHalvedTo}
use Rattle.mt_track.proofs.spans.last_over.Given as goal

abbrev pub invariant-loop-end : goal.invariant-loop-end
invariant-loop-end g l = record {
  from : l.low ≤ l.begin;
  to : l.end ≤ l.high;
  some : HasSome (g.H.Halved.holds l.what) l.begin l.end;
  none : (k : ℕ) → l.end ≤ k → k < l.high → ¬ g.H.Halved.holds l.what k;
  left : IsHalvedTo (l.end - l.begin) l.steps (l.fn.steps + 14);
}

abbrev pub decreases-loop-end : goal.decreases-loop-end
decreases-loop-end g l = l.end - l.begin
