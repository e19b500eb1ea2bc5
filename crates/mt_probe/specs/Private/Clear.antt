-- No public contract names these: they are of private steps and of proofs.
-- Where a new trajectory has a hit, and where it has none.
use Rattle.std.specs.Prelude.{◌≡◌, ◌≢◌, ◌↔◌, ◌<◌, ◌*◌, ℕ, List, Option, Some, None}
use Rattle.mt_base.specs.declared.hit.Hit.{Hit}
use Rattle.mt_base.specs.Conflict.{IsConflict, IsSpanOfLoss}
use Rattle.mt_base.specs.Picture.{trajectory_of, window_end}
use Rattle.mt_base.specs.Trajectory.{Trajectory}
use Rattle.mt_probe.specs.declared.flight.Flight.{Flight}
use Rattle.mt_probe.specs.Shot.{Shot, flight_at}

-- the place of the flight of that callsign, none where no flight has it
abbrev pub IsOwnPlace : Shot → List ℕ → Option ℕ → Type 0
IsOwnPlace shot call own = (slot : ℕ) (f : Flight) → flight_at shot slot ≡ Some f → f.card.call ≡ call ↔ own ≡ Some slot

-- no conflict in the look-ahead with another flight at this place
abbrev pub IsClearAt : Shot → List ℕ → Trajectory → ℕ → Type 0
IsClearAt shot call t slot = (f : Flight) → flight_at shot slot ≡ Some f → f.card.call ≢ call
    → IsConflict shot.setup.rules t (trajectory_of shot.setup f.card.path) shot.now (window_end shot.now) None

-- a conflict in the look-ahead with another flight at this place
pub record IsHitAt (shot : Shot) (call : List ℕ) (t : Trajectory) (slot : ℕ) (hit : Hit) : Type 0 where
  pub flight : Flight
  pub at : flight_at shot slot ≡ Some flight
  pub other : flight.card.call ≢ call
  pub with_is : hit.with ≡ flight.card.call
  pub span : IsSpanOfLoss shot.setup.rules t (trajectory_of shot.setup flight.card.path) shot.now (window_end shot.now) hit.first hit.last

-- a hit at a place whose item is below a number
pub record IsHitBelow (shot : Shot) (call : List ℕ) (t : Trajectory) (n : ℕ) (hit : Hit) : Type 0 where
  pub slot : ℕ
  pub below : 2 * slot < n
  pub is : IsHitAt shot call t slot hit
