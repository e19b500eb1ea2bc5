use Rattle.std.specs.Prelude.{◌≡◌, ℕ, List, All, AllPairs}
use Rattle.std.specs.Arc.{arc_value}
use Rattle.mt_base.specs.declared.conflict.Kind.{Kind}
use Rattle.mt_base.specs.Picture.{NamedTrajectory}
use Rattle.mt_track.specs.declared.roster.Item.{Item}

-- an item's trajectory with its callsign and kind
abbrev pub named : Item → NamedTrajectory
named item = record { call = item.call; kind = item.kind; path = arc_value item.strand }

-- a trajectory has that callsign and kind
abbrev pub HasName : List ℕ → Kind → NamedTrajectory → Type 0
HasName call kind t = (t.call ≡ call) × (t.kind ≡ kind)

-- no trajectory of the list has that name
abbrev pub IsNameFree : List NamedTrajectory → List ℕ → Kind → Type 0
IsNameFree list call kind = All (λ t. ¬ HasName call kind t) list

-- no two have one callsign and one kind
abbrev pub AreNamedApart : List NamedTrajectory → Type 0
AreNamedApart list = AllPairs (λ a b. ¬ HasName b.call b.kind a) list
