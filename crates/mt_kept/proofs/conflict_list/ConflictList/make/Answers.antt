use Rattle.mt_kept.proofs.InOrder.{sorted_none}
use Rattle.mt_kept.proofs.conflict_list.ConflictList.make.Goals as goal

pub invariant_of-result : goal.invariant_of-result
invariant_of-result c = sorted_none c.new.result.items c.new.ensures.items
