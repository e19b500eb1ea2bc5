use Rattle.mt_base.proofs.ConflictOrder.{total}
use Rattle.mt_base.proofs.OneOrder.{one_order}
use Rattle.mt_base.proofs.laws.one_published_list_law.Goals as goal

pub returns : goal.returns
returns c = λ rules now all cs ds is also. one_order total cs ds is.sorted also.sorted
    (λ z h. (also.exact z).1 ((is.exact z).0 h)) (λ z h. (is.exact z).1 ((also.exact z).0 h))
