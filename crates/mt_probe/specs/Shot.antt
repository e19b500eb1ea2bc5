-- A snapshot as contracts see it, and the state that it stands for.
use Rattle.std.specs.Prelude.{◌≡◌, ℕ, ◌<◌, List, [], ◌∷◌, Option, Some, None, length, map, get_or, nat_lt, option_map, if◌then◌else◌}
use Rattle.std.specs.Arc.{arc_value}
use Rattle.mt_base.specs.declared.conflict.Kind.{Kind}
use Rattle.mt_base.specs.declared.conflict.Kind.TheVariants.{Actual, Tentative}
use Rattle.mt_base.specs.declared.flight.Record.{Record}
use Rattle.mt_base.specs.Picture.{NamedTrajectory, State}
use Rattle.mt_base.specs.Tables.{Setup}
use Rattle.mt_base.specs.Trajectory.{Trajectory}
use Rattle.mt_probe.specs.declared.flight.Flight.{Flight}
use Rattle.mt_probe.specs.declared.flight.Made.{Made}

-- a snapshot: rules, tables, version, moment, places
pub record Shot : Type 0 where
  pub setup : Setup
  pub version : ℕ
  pub now : ℕ
  pub slots : List (Option Flight)

-- what is at a place, none behind the last
abbrev pub flight_at : Shot → ℕ → Option Flight
flight_at shot slot = get_or shot.slots slot None

-- what a flight has of a kind
abbrev pub made_of : Flight → Kind → Option Made
made_of f Actual = Some f.actual
made_of f Tentative = f.mark

-- the flights of some places
abbrev pub flights_in : List (Option Flight) → List Flight
flights_in [] = []
flights_in (None ∷ slots) = flights_in slots
flights_in (Some f ∷ slots) = f ∷ flights_in slots

-- a flight among others, in filing order
abbrev pub filed_among : Flight → List Flight → List Flight
filed_among f [] = f ∷ []
filed_among f (g ∷ gs) = if nat_lt f.filed g.filed then f ∷ g ∷ gs else g ∷ filed_among f gs

-- flights in the order of filing
abbrev pub in_order : List Flight → List Flight
in_order [] = []
in_order (f ∷ fs) = filed_among f (in_order fs)

-- the records of some places, in filing order
unfoldable pub records_in : List (Option Flight) → List Record
records_in slots = map (λ f. f.card) (in_order (flights_in slots))

-- a free place, or none is free
abbrev pub IsFreeIn : List (Option Flight) → Option ℕ → Type 0
IsFreeIn slots (Some slot) = (slot < length slots) × (get_or slots slot None ≡ None)
IsFreeIn slots None = length (records_in slots) ≡ length slots

-- the state of a snapshot
abbrev pub state_in_shot : Shot → State
state_in_shot shot = record { now = shot.now; records = records_in shot.slots; version = shot.version }

-- a trajectory with its name, where there is one
abbrev pub made_named : List ℕ → Kind → Option Trajectory → List NamedTrajectory
made_named call kind None = []
made_named call kind (Some t) = record { call = call; kind = kind; path = t } ∷ []

-- the trajectories kept of a flight
abbrev pub kept_of : Flight → List NamedTrajectory
kept_of f =
    record { call = f.card.call; kind = Actual; path = arc_value f.actual.strand } ∷ made_named f.card.call Tentative (option_map (λ m. arc_value m.strand) f.mark)
