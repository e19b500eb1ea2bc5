use Rattle.mt_meet.proofs.Listing.{next_more}
use Rattle.mt_meet.proofs.table.SliceTable.meeting.Goals as goal

pub loop-met-preserved : goal.loop-met-preserved
loop-met-preserved c = record {
  searched = c.next_meeting.ensures.searched;
  met = rw (c.in_ok-push.ensures.items, c.in-Some.ensures.on) (next_more c.args.subject.now.rules c.args.subject.now.sliced c.args.self.now c.loop-met.search.from
      c.loop-met.list.items c.in-Some.met c.in-Some.ensures.next c.loop-met.invariant.met);
}
