use Rattle.std.proofs.Common.{◌-◌, ◌≤◌, length}
use Rattle.std.specs.List.{AllWithin}
use Rattle.mt_names.specs.Private.Naming.{IsCallBefore, IsNotBefore}
use Rattle.mt_names.proofs.row.before.Given as goal

abbrev pub invariant-loop-low : goal.invariant-loop-low
invariant-loop-low l = record {
  order : l.low ≤ l.high;
  inside : l.high ≤ length l.list;
  below : AllWithin (IsCallBefore l.call) l.list 0 l.low;
  rest : AllWithin (IsNotBefore l.call) l.list l.high (length l.list);
}

abbrev pub decreases-loop-low : goal.decreases-loop-low
decreases-loop-low l = l.high - l.low
