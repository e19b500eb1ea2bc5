use Rattle.mt_meet.proofs.Touching.{both}
use Rattle.mt_meet.proofs.boxes.Boxes.crosses.Goals as goal

pub returns : goal.returns
returns c = λ cross.
    both _ _ (both _ _ (c.share.ensures cross.west cross.east) (c.share-2.ensures cross.south cross.north)) (c.share-3.ensures cross.low cross.high)
