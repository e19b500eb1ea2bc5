-- What is kept of the places.
use Rattle.std.specs.Prelude.{ℕ, List, Option}
use Rattle.mt_base.specs.declared.conflict.Conflict.{Conflict}
use Rattle.mt_base.specs.declared.rules.Rules.{Rules}
use Rattle.mt_base.specs.Picture.{NamedTrajectory}

-- the rules, the moment, the places and what is published
pub record Watched : Type 0 where
  pub rules : Rules
  pub moment : ℕ
  pub places : List (Option NamedTrajectory)
  pub published : List Conflict
