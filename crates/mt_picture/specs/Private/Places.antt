-- No public contract names these: they are of private steps and of proofs.
-- The places of the flights of a snapshot, as the kept conflicts have them: slot i has the places 2 i and 2 i + 1, for the trajectory that the
-- flight flies and for its tentative one.
use Rattle.std.specs.Prelude.{◌≡◌, ℕ, ◌+◌, ◌*◌, ◌⊎◌, List, [], ◌∷◌, Option, Some, None, set}
use Rattle.std.specs.Arc.{arc_value}
use Rattle.std.specs.List.{flat_map}
use Rattle.std.specs.Option.{option_map}
use Rattle.mt_base.specs.declared.command.Command.{Command}
use Rattle.mt_base.specs.declared.conflict.Kind.{Kind}
use Rattle.mt_base.specs.declared.conflict.Kind.TheVariants.{Actual, Tentative}
use Rattle.mt_base.specs.Picture.{NamedTrajectory}
use Rattle.mt_probe.specs.declared.flight.Flight.{Flight}
use Rattle.mt_probe.specs.declared.flight.Made.{Made}
use Rattle.mt_probe.specs.Prepared.{MakesStrand, kind_made}
use Rattle.mt_probe.specs.Shot.{Shot, made_of}

-- a trajectory of a flight, with its name
abbrev pub made_of_kind : Flight → Kind → Made → NamedTrajectory
made_of_kind f kind made = record { call = f.card.call; kind = kind; path = arc_value made.strand }

-- `first_of`, `second_of`: what the two places of a slot have
abbrev pub first_of : Option Flight → Option NamedTrajectory
first_of None = None
first_of (Some f) = Some (made_of_kind f Actual f.actual)

abbrev pub second_of : Option Flight → Option NamedTrajectory
second_of None = None
second_of (Some f) = option_map (made_of_kind f Tentative) f.mark

-- the kind that a trajectory hasn't
abbrev pub other_kind : Kind → Kind
other_kind Actual = Tentative
other_kind Tentative = Actual

-- `place_in`, `place_kind`: the place of a slot for trajectories of a kind, and what it has
abbrev pub place_in : ℕ → Kind → ℕ
place_in slot Actual = 2 * slot
place_in slot Tentative = 2 * slot + 1

abbrev pub place_kind : Kind → Option Flight → Option NamedTrajectory
place_kind Actual slot = first_of slot
place_kind Tentative slot = second_of slot

-- `places_of`, `all_places`, `places_put`: both places of a slot, those of all slots, and those of a snapshot where a slot has this
abbrev pub places_of : Option Flight → List (Option NamedTrajectory)
places_of slot = first_of slot ∷ second_of slot ∷ []

abbrev pub all_places : List (Option Flight) → List (Option NamedTrajectory)
all_places slots = flat_map places_of slots

abbrev pub places_put : Shot → ℕ → Option Flight → List (Option NamedTrajectory)
places_put shot slot x = all_places (set shot.slots slot x)

-- a trajectory that a flight may have, with its stamp: the version at which it was made
abbrev pub stamped : Flight → Kind → Option Made → Option (NamedTrajectory × ℕ)
stamped f kind None = None
stamped f kind (Some made) = Some (made_of_kind f kind made, made.stamp)

-- what the flight of a slot has of a kind, with its stamp
abbrev pub stamped_at : Kind → Option Flight → Option (NamedTrajectory × ℕ)
stamped_at kind None = None
stamped_at kind (Some f) = stamped f kind (made_of f kind)

-- of a kind a flight has what the slot had, what that command makes at that version, or nothing
abbrev pub IsNewOrStays : Option Flight → ℕ → Command → Flight → Kind → Type 0
IsNewOrStays old version command f kind =
    ((made : Made) → made_of f kind ≡ Some made → (made.stamp ≡ version) × MakesStrand command × (kind_made command ≡ kind))
    ⊎ (stamped_at kind (Some f) ≡ stamped_at kind old)
