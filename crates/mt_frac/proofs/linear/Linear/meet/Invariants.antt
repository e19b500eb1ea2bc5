use Rattle.std.proofs.Common.{ℤ, pos, ◌*ℤ◌, ◌<ℤ◌, ◌↔◌}
use Rattle.mt_frac.specs.Private.Meeting.{Lies}
use Rattle.mt_frac.proofs.Meets.{FirstAreBelow}
use Rattle.mt_frac.proofs.linear.Linear.meet.Given as goal

abbrev pub invariant-loop-line : goal.invariant-loop-line
invariant-loop-line l = record {
  ordered : (l.low.num *ℤ l.high.den) <ℤ (l.high.num *ℤ l.low.den);
  exact : (n d : ℤ) → pos 0 <ℤ d → Lies l.low.num l.low.den l.high.num l.high.den n d
      ↔ FirstAreBelow l.lines l.line-index l.initial.low.num l.initial.low.den l.initial.high.num l.initial.high.den n d;
}
