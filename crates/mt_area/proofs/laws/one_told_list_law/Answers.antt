use Rattle.mt_base.proofs.OneOrder.{one_order}
use Rattle.mt_base.proofs.PiercedOrder.{total}
use Rattle.mt_area.proofs.laws.one_told_list_law.Goals as goal

pub returns : goal.returns
returns c = λ now areas all ps qs is also. one_order total ps qs is.sorted also.sorted
    (λ z h. (also.exact z).1 ((is.exact z).0 h)) (λ z h. (is.exact z).1 ((also.exact z).0 h))
