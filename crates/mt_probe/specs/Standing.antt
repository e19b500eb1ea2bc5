-- What every snapshot keeps.
use Rattle.std.specs.Prelude.{◌≡◌, ◌≢◌, ◌≤◌, ℕ, pos, Some, Contains, length}
use Rattle.mt_base.specs.Bounds.{AreWithinBounds, IsSoundFlight}
use Rattle.mt_base.specs.Picture.{NamedTrajectory, trajectories_of}
use Rattle.mt_base.specs.Tables.{Setup}
use Rattle.mt_track.specs.Laid.{IsStrand}
use Rattle.mt_probe.specs.declared.flight.Flight.{Flight}
use Rattle.mt_probe.specs.Shot.{Shot, flight_at, kept_of}

-- a sound flight whose kept trajectories are its own
pub record IsSoundEntry (setup : Setup) (f : Flight) : Type 0 where
  pub sound : IsSoundFlight setup f.card
  pub kept : kept_of f ≡ trajectories_of setup f.card

-- two flights differ in callsign and filing
pub record AreTwoFlights (f g : Flight) : Type 0 where
  pub calls : f.card.call ≢ g.card.call
  pub filings : f.filed ≢ g.filed

-- what every snapshot keeps: bounded rules and moment, sound flights, own callsigns and filings. There are as many places as the rules allow flights,
-- and each trajectory that is kept of a flight is one of segments; no two flights have one callsign or were filed at one version.
pub record IsSoundShot (shot : Shot) : Type 0 where
  pub rules : AreWithinBounds shot.setup.rules
  pub places : pos (length shot.slots) ≡ shot.setup.rules.flights
  pub sound : (i : ℕ) (f : Flight) → flight_at shot i ≡ Some f → IsSoundEntry shot.setup f
  pub laid : (i : ℕ) (f : Flight) (t : NamedTrajectory) → flight_at shot i ≡ Some f → Contains (kept_of f) t → IsStrand t.path
  pub apart : (i j : ℕ) (f g : Flight) → i ≢ j → flight_at shot i ≡ Some f → flight_at shot j ≡ Some g → AreTwoFlights f g
  pub early : shot.now ≤ 10000000
