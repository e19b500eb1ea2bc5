-- No public contract names these: they are of private steps and of proofs.
-- What the steps of the search add.
use Rattle.std.specs.Prelude.{ℕ, List, Contains, ◌↔◌, ◌⊎◌}
use Rattle.mt_base.specs.declared.conflict.Conflict.{Conflict}
use Rattle.mt_base.specs.declared.rules.Rules.{Rules}
use Rattle.mt_base.specs.Picture.{NamedTrajectory, IsConflictOf}

-- a list now has besides what it had exactly the conflicts that are P
abbrev pub AddsConflicts : (Conflict → Type 0) → List Conflict → List Conflict → Type 0
AddsConflicts P old new = (c : Conflict) → Contains new c ↔ (Contains old c ⊎ P c)

-- the trajectory and one of these, of another flight with a greater callsign, have this conflict
pub record IsOfRight (rules : Rules) (now : ℕ) (left : NamedTrajectory) (rights : List NamedTrajectory) (c : Conflict) : Type 0 where
  pub right : NamedTrajectory
  pub right_in : Contains rights right
  pub is : IsConflictOf rules now left right c
