use Rattle.mt_base.specs.declared.flight.Base.{Base}
use Rattle.mt_base.specs.Bounds.{IsHeight, IsInPlane}

-- a base in the plane, up to flight level 600
pub record IsInAir (base : Base) : Type 0 where
  pub plane : IsInPlane base.x base.y
  pub height : IsHeight base.z
