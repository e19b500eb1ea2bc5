-- A snapshot after a change at one place.
use Rattle.std.specs.Prelude.{◌≡◌, ◌≢◌, ◌<◌, ◌+◌, ℕ, List, [], ◌∷◌, ◌++◌, Option, Some, None, map, filter, not, option_and_then, slice_set, if◌then◌else◌}
use Rattle.std.specs.Str.{bytes_eq}
use Rattle.mt_base.specs.declared.conflict.Kind.{Kind}
use Rattle.mt_base.specs.declared.conflict.Kind.TheVariants.{Actual, Tentative}
use Rattle.mt_base.specs.declared.flight.Record.{Record}
use Rattle.mt_probe.specs.declared.flight.Flight.{Flight}
use Rattle.mt_probe.specs.Items.{path_of}
use Rattle.mt_probe.specs.Shot.{Shot, flight_at}
use Rattle.mt_probe.specs.Standing.{IsSoundEntry}

-- a replaced flight keeps its filing; a new one is last
abbrev pub IsFiledAt : Shot → ℕ → Flight → Option Flight → Type 0
IsFiledAt shot slot f (Some old) = f.filed ≡ old.filed
IsFiledAt shot slot f None = (i : ℕ) (g : Flight) → flight_at shot i ≡ Some g → g.filed < f.filed

-- a flight may stand at a place: sound, no other has its callsign, its filing fits. Its trajectories are its own.
pub record Fits (shot : Shot) (slot : ℕ) (f : Flight) : Type 0 where
  pub entry : IsSoundEntry shot.setup f
  pub own_call : (i : ℕ) (g : Flight) → i ≢ slot → flight_at shot i ≡ Some g → g.card.call ≢ f.card.call
  pub filed : IsFiledAt shot slot f (flight_at shot slot)

-- what is put at a place has the same trajectory of a kind as what is there, or neither has one
abbrev pub IsKindKept : Shot → ℕ → Option Flight → Kind → Type 0
IsKindKept shot slot flight kind = option_and_then (path_of kind) flight ≡ option_and_then (path_of kind) (flight_at shot slot)

-- the kind of trajectory that was made of what is put at a place: the tentative one where the flown one stays, else the flown one
abbrev pub made_beside : Option Kind → Kind
made_beside (Some Actual) = Tentative
made_beside stays = Actual

-- the snapshot with that at a place, one version later
abbrev pub with_flight : Shot → ℕ → Option Flight → Shot
with_flight shot slot flight = record shot { version = shot.version + 1; slots = slice_set shot.slots slot flight }

-- the snapshot at another moment, one version later
abbrev pub with_moment : Shot → ℕ → Shot
with_moment shot now = record shot { version = shot.version + 1; now = now }

-- a flight, replaced where the callsign matches
abbrev pub replaced_if : List ℕ → Record → Record → Record
replaced_if call card flight = if bytes_eq flight.call call then card else flight

-- the records after a change at one place: one added, replaced, or taken out. A new flight is filed after the others, or takes the place of the old
-- one in the order.
abbrev pub records_put : Option Flight → Option Flight → List Record → List Record
records_put None None records = records
records_put None (Some f) records = records ++ f.card ∷ []
records_put (Some old) (Some f) records = map (replaced_if old.card.call f.card) records
records_put (Some old) None records = filter (λ flight. not (bytes_eq flight.call old.card.call)) records
