-- The order of filing.
use Rattle.std.specs.Prelude.{◌≡◌, ◌↔◌, List, Option, Contains, map}
use Rattle.std.specs.List.Sorted.{IsStrictlySortedBy}
use Rattle.std.specs.Ordering.{nat_cmp}
use Rattle.std.specs.declared.cmp.Ordering.{Ordering}
use Rattle.mt_probe.specs.declared.flight.Flight.{Flight}
use Rattle.mt_probe.specs.Shot.{Shot, flights_in, records_in}
use Rattle.mt_probe.specs.Standing.{IsSoundShot}

-- the order of filing
abbrev pub filed_cmp : Flight → Flight → Ordering
filed_cmp f g = nat_cmp f.filed g.filed

-- exactly these places' flights, each once, in filing order
pub record AreFiled (slots : List (Option Flight)) (flights : List Flight) : Type 0 where
  pub sorted : IsStrictlySortedBy filed_cmp flights
  pub members : (f : Flight) → Contains flights f ↔ Contains (flights_in slots) f

-- a snapshot's records are its flights in filing order, however found
abbrev pub FilingOrderLaw : Type 0
FilingOrderLaw = (shot : Shot) (flights : List Flight) → IsSoundShot shot → AreFiled shot.slots flights → map (λ f. f.card) flights ≡ records_in shot.slots
