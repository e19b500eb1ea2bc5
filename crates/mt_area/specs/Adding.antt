-- What may be added to a list of areas.
use Rattle.std.specs.Prelude.{◌≡◌, ℕ, ◌<◌, ◌≤◌, List, Contains, length, Result, Ok, Err, ⊤}
use Rattle.mt_base.specs.declared.area.Area.{Area}
use Rattle.mt_base.specs.Area.{HasRightShape}
use Rattle.mt_area.specs.declared.area_no.AreaNo.{AreaNo}
use Rattle.mt_area.specs.declared.area_no.AreaNo.TheVariants.{Taken, Shape, Full, Memory}

-- an area of that name stands
pub record IsTaken (areas : List Area) (name : List ℕ) : Type 0 where
  pub area : Area
  pub there : Contains areas area
  pub named : area.name ≡ name

-- new name, right shape, fewer than 256 areas
abbrev pub CanBeAdded : List Area → Area → Type 0
CanBeAdded areas area = (¬ IsTaken areas area.name) × HasRightShape area × (length areas < 256)

-- the answer to an area: accepted, or its first refusal. Want of memory comes only where the area can be added.
abbrev pub IsAnswer : List Area → Area → Result ⊤ AreaNo → Type 0
IsAnswer areas area (Ok _) = CanBeAdded areas area
IsAnswer areas area (Err Taken) = IsTaken areas area.name
IsAnswer areas area (Err Shape) = (¬ IsTaken areas area.name) × (¬ HasRightShape area)
IsAnswer areas area (Err Full) = (¬ IsTaken areas area.name) × HasRightShape area × (256 ≤ length areas)
IsAnswer areas area (Err Memory) = CanBeAdded areas area
