use Rattle.mt_meet.proofs.Marking.{no_marks}
use Rattle.mt_meet.proofs.marked_items.MarkedItems.none.Goals as goal

pub invariant_of-result : goal.invariant_of-result
invariant_of-result c = no_marks c.none.result 0 c.none.ensures
