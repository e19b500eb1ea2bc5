use Rattle.std.proofs.Common.{◌≡◌, ◌≤◌, length, take}
use Rattle.mt_area.proofs.Crossings.{AreFirst}
use Rattle.mt_area.proofs.lines.crossed.Given as goal

abbrev pub invariant-loop-i : goal.invariant-loop-i
invariant-loop-i l = record {
  few : l.count ≤ l.i;
  len : length l.lines ≡ 18;
  first : AreFirst l.area l.row l.seconds l.i (take l.count l.lines);
}
