-- No public contract names these: they are of private steps and of proofs.
-- The pierces of areas, gathered list by list.
use Rattle.std.specs.Prelude.{◌≡◌, ℕ, List, Contains, ◌↔◌, ◌⊎◌, Result, Ok, map}
use Rattle.mt_memory.specs.declared.Memory.{Memory}
use Rattle.mt_base.specs.declared.area.Area.{Area}
use Rattle.mt_base.specs.declared.area.Pierced.{Pierced}
use Rattle.mt_base.specs.Picture.{NamedTrajectory}
use Rattle.mt_base.specs.Pierced.{IsPiercedBy}

-- a list now has exactly the pierces that are P, besides what it had
abbrev pub AddsPierced : (Pierced → Type 0) → List Pierced → List Pierced → Type 0
AddsPierced P old new = (p : Pierced) → Contains new p ↔ (Contains old p ⊎ P p)

-- the trajectory pierces one of these areas so
pub record IsPiercedByOne (now : ℕ) (areas : List Area) (t : NamedTrajectory) (p : Pierced) : Type 0 where
  pub area : Area
  pub area_in : Contains areas area
  pub is : IsPiercedBy now area t p

-- one of the lists has it
pub record IsInOne (parts : List (List Pierced)) (p : Pierced) : Type 0 where
  pub part : List Pierced
  pub part_in : Contains parts part
  pub within : Contains part p

-- the parts together are the whole answer
pub record AreOfAll (tries : List (Result (List Pierced) Memory)) (found : List Pierced) : Type 0 where
  pub parts : List (List Pierced)
  pub all : tries ≡ map Ok parts
  pub exact : (p : Pierced) → Contains found p ↔ IsInOne parts p
