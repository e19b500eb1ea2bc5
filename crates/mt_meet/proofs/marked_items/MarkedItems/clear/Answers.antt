use Rattle.mt_meet.proofs.Marking.{none_of_zeros}
use Rattle.mt_meet.proofs.marked_items.MarkedItems.clear.Goals as goal

pub returns-then-self-ne0 : goal.returns-then-self-ne0
returns-then-self-ne0 c = λ place. rw c.self-then-self-ne0.view_is (none_of_zeros c.none.result c.none.ensures place)
