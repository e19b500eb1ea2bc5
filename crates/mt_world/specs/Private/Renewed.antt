-- No public contract names these: they are of private steps and of proofs.
use Rattle.std.specs.Prelude.{◌≡◌, ℕ, List, ◌++◌}
use Rattle.mt_world.specs.Counted.{WereTestsOfRenewals}
use Rattle.mt_world.specs.World.{World}

-- the tests of the renewals of some first ones of these flights
pub record WereTestsOfSome (w : World) (who : ℕ) (calls : List (List ℕ)) (old new : ℕ) : Type 0 where
  pub done : List (List ℕ)
  pub left : List (List ℕ)
  pub first : calls ≡ done ++ left
  pub renewed : WereTestsOfRenewals w who done old new
