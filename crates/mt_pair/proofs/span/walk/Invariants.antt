use Rattle.std.proofs.Common.{◌≡◌, true, ◌-◌, ◌≤◌}
use Rattle.mt_base.specs.Conflict.{IsConflict, IsLossSecond}
use Rattle.mt_pair.specs.Private.Held.{BeginsBy}
use Rattle.mt_base.specs.Span.{IsSolid}
use Rattle.mt_pair.proofs.span.walk.Given as goal

abbrev pub invariant-loop-k : goal.invariant-loop-k
invariant-loop-k l = record {
  ordered : l.from ≤ l.k;
  within : l.k ≤ l.to;
  a_begun : BeginsBy l.a l.i l.k;
  b_begun : BeginsBy l.b l.j l.k;
  conflict : IsConflict l.rules l.a l.b l.from l.k l.loss.span;
  solid : l.loss.solid ≡ true → IsSolid (IsLossSecond l.rules l.a l.b) l.loss.span;
}

abbrev pub decreases-loop-k : goal.decreases-loop-k
decreases-loop-k l = l.to - l.k
