-- Places, the trajectories that stand in them, and what a change puts there.
use Rattle.std.specs.Prelude.{◌≡◌, ℕ, List, [], ◌∷◌, set, slice_index_or, Option, Some, None}
use Rattle.std.specs.List.{flat_map}
use Rattle.std.specs.Option.{option_map, option_to_list}
use Rattle.mt_base.specs.Picture.{NamedTrajectory}
use Rattle.mt_kept.specs.declared.changes.PlaceChange.{PlaceChange}
use Rattle.mt_track.specs.declared.roster.Item.{Item}
use Rattle.mt_track.specs.Named.{named}

-- an item's trajectory, where there is one
abbrev pub seen : Option Item → Option NamedTrajectory
seen place = option_map named place

-- what stands in a place, none past the last
abbrev pub at : List (Option NamedTrajectory) → ℕ → Option NamedTrajectory
at places i = slice_index_or places i None

-- the trajectories in the places
abbrev pub held : List (Option NamedTrajectory) → List NamedTrajectory
held places = flat_map option_to_list places

-- the place of a change
abbrev pub change_place : PlaceChange → ℕ
change_place change = change.place

-- the places after some changes. Each item comes into its place, one after another.
abbrev pub with_changes : List (Option NamedTrajectory) → List PlaceChange → List (Option NamedTrajectory)
with_changes places [] = places
with_changes places (change ∷ changes) = with_changes (set places change.place (seen change.item)) changes

-- a flight's trajectories of one kind stand in one place
abbrev pub HaveOwnPlaces : List (Option NamedTrajectory) → Type 0
HaveOwnPlaces places = (i j : ℕ) (s t : NamedTrajectory) → at places i ≡ Some s → at places j ≡ Some t → s.call ≡ t.call → s.kind ≡ t.kind → i ≡ j
