use Rattle.std.proofs.Common.{◌-◌, length}
use Rattle.mt_meet.proofs.Listing.{AreMetBefore}
use Rattle.mt_meet.specs.Searching.{IsSearched}
use Rattle.mt_meet.proofs.table.SliceTable.meeting.Given as goal

abbrev pub invariant-loop-met : goal.invariant-loop-met
invariant-loop-met l = record {
  searched : IsSearched l.subject l.self l.search;
  met : AreMetBefore l.subject.rules l.subject.sliced l.self l.search.from l.list.items;
}

abbrev pub decreases-loop-met : goal.decreases-loop-met
decreases-loop-met l = length l.self - l.search.from
