-- No public contract names these: they are of private steps and of proofs.
-- The places of a snapshot in the order of filing.
use Rattle.std.specs.Prelude.{◌≡◌, List, Option, Some, map, option_map}
use Rattle.mt_base.specs.declared.flight.Record.{Record}
use Rattle.mt_probe.specs.declared.flight.Flight.{Flight}
use Rattle.mt_probe.specs.Shot.{Shot, flight_at, records_in}
use Rattle.mt_snapshot.specs.declared.order.Filed.{Filed}

-- a place holds a flight, which was filed at that version
pub record IsFilledPlace (shot : Shot) (x : Filed) : Type 0 where
  pub flight : Flight
  pub there : flight_at shot x.place ≡ Some flight
  pub at_is : x.at ≡ flight.filed

-- what is known of the flight at a place
abbrev pub card_at : Shot → Filed → Option Record
card_at shot x = option_map (λ f. f.card) (flight_at shot x.place)

-- these places hold the flights of the snapshot's state, in its order
abbrev pub ArePlaced : Shot → List Filed → Type 0
ArePlaced shot all = map (card_at shot) all ≡ map Some (records_in shot.slots)
