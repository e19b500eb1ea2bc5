use Rattle.mt_desk.proofs.Answered.{seen_again}
use Rattle.mt_desk.proofs.hand.Hand.look.Goals as goal

pub invariant_of-self-2 : goal.invariant_of-self-2
invariant_of-self-2 g c = (
  c.in_ok-taken.ensures.ready,
  record { for = rw c.in_ok-share.ensures c.in_ok-taken.ensures.taken; seen = seen_again _ _ _ c.take.ensures.seen },
)
