use Rattle.std.proofs.Common.{◌↔◌, Contains, take}
use Rattle.mt_base.specs.declared.hit.Hit.{Hit}
use Rattle.mt_picture.specs.Private.Hits.{IsHitOfOnePair}
use Rattle.mt_picture.proofs.hits.hits_of.Given as goal

abbrev pub invariant-loop-pair : goal.invariant-loop-pair
invariant-loop-pair l = (hit : Hit) → Contains l.hits hit ↔ IsHitOfOnePair (take l.pair-index l.finds) l.call l.now hit
