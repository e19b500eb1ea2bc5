use Rattle.std.proofs.Common.{◌≤◌, ◌+◌, ◌-◌, ◌*◌, min}
use Rattle.mt_meet.specs.Meeting.{MeetNone}
use Rattle.mt_meet.proofs.table.SliceTable.next_in.Given as goal

abbrev pub invariant-loop-place : goal.invariant-loop-place
invariant-loop-place l = record {
  on : l.from ≤ l.place;
  none : MeetNone l.subject.rules l.subject.sliced l.self (128 * l.block + l.from) (128 * l.block + min l.place 128);
}

abbrev pub decreases-loop-place : goal.decreases-loop-place
decreases-loop-place l = 128 - l.place
