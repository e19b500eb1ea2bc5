-- The hits of a trajectory are one list.
use Rattle.std.proofs.Common.{◌≡◌, ℕ, List}
use Rattle.mt_base.specs.declared.hit.Hit.{Hit}
use Rattle.mt_base.specs.Picture.{State}
use Rattle.mt_base.specs.Tables.{Setup}
use Rattle.mt_base.specs.Trajectory.{Trajectory}
use Rattle.mt_base.specs.WhatIf.{AreHitsOf}
use Rattle.mt_base.proofs.HitOrder.{total}
use Rattle.mt_base.proofs.OneOrder.{one_order}

pub one_hits : (setup : Setup) (s : State) (call : List ℕ) (t : Trajectory) (hits others : List Hit) → AreHitsOf setup s call t hits
    → AreHitsOf setup s call t others → hits ≡ others
one_hits setup s call t hits others is also = one_order total hits others is.sorted also.sorted
    (λ z h. (also.exact z).1 ((is.exact z).0 h)) (λ z h. (is.exact z).1 ((also.exact z).0 h))
