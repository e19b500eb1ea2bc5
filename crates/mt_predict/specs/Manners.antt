use Rattle.std.specs.Prelude.{ℕ, ◌≤◌, pos, List}
use Rattle.mt_base.specs.declared.band.Band.{Band}
use Rattle.mt_base.specs.declared.place.Place.{Place}
use Rattle.mt_base.specs.declared.rules.Rules.{Rules}
use Rattle.mt_base.specs.Bounds.{AreBoundedBands, AreWithinBounds, IsHeight, IsInPlane, IsWithin}
use Rattle.mt_base.specs.Predictor.{Manner}

-- how a type with these bands flies to a level
abbrev pub manner : Rules → List Band → ℕ → Manner
manner rules bands level = record { rules = rules; bands = bands; level = level }

-- rules, bands and level are within bounds
pub record IsBoundedManner (m : Manner) : Type 0 where
  pub rules : AreWithinBounds m.rules
  pub bands : AreBoundedBands m.bands
  pub level : m.level ≤ 600

-- a place in the plane, height and margins within bounds
pub record IsFlownPlace (rules : Rules) (a : Place) : Type 0 where
  pub plane : IsInPlane a.x a.y
  pub height : IsHeight a.z
  pub r : IsWithin (pos 0) rules.rmax a.r
  pub w : IsWithin (pos 0) rules.wmax a.w
