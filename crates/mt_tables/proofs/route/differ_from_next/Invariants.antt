use Rattle.std.proofs.Common.{◌≡◌, ◌-◌, ◌≤◌, drop, length}
use Rattle.mt_base.specs.Tables.{differ_from_next}
use Rattle.mt_tables.proofs.route.differ_from_next.Given as goal

abbrev pub invariant-loop-i : goal.invariant-loop-i
invariant-loop-i l = record {
  within : l.i ≤ length l.names;
  same : differ_from_next l.names ≡ differ_from_next (drop l.i l.names);
}

abbrev pub decreases-loop-i : goal.decreases-loop-i
decreases-loop-i l = length l.names - l.i
