use Rattle.std.proofs.Common.{◌≡◌, ◌-◌, ◌≤◌, drop, length}
use Rattle.mt_tables.specs.Adding.{tops_rise}
use Rattle.mt_tables.proofs.bands.tops_rise.Given as goal

abbrev pub invariant-loop-i : goal.invariant-loop-i
invariant-loop-i l = record {
  within : l.i ≤ length l.bands;
  same : tops_rise l.bands ≡ tops_rise (drop l.i l.bands);
}

abbrev pub decreases-loop-i : goal.decreases-loop-i
decreases-loop-i l = length l.bands - l.i
