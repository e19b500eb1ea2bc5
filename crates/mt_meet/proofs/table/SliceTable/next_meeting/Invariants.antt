use Rattle.std.proofs.Common.{◌≡◌, ◌*◌}
use Rattle.mt_meet.specs.Meeting.{MeetNone}
use Rattle.mt_meet.specs.Searching.{IsSearched}
use Rattle.mt_meet.proofs.table.SliceTable.next_meeting.Given as goal

abbrev pub invariant-loop-block : goal.invariant-loop-block
invariant-loop-block l = record {
  searched : IsSearched l.subject l.self l.search;
  same : l.search.from ≡ l.fn.search.from;
  none : MeetNone l.subject.rules l.subject.sliced l.self l.fn.search.from (128 * l.block);
}
