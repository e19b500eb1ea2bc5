-- The level above which the greater vertical minimum holds, and loss by it: the conditions of the definition joined in one level.
use Rattle.std.specs.Prelude.{Bool, true, false, ℤ, ◌+ℤ◌, ◌*ℤ◌, ◌<ℤ◌, ◌⊎◌}
use Rattle.mt_base.specs.declared.row.Row.{Row}
use Rattle.mt_base.specs.declared.rules.Rules.{Rules}
use Rattle.mt_base.specs.Loss.{IsNearAt, IsOneAboveAt, apart_x, apart_y, fl290, fl410, width}

-- the level above which the greater minimum holds for two aircraft: flight level 410 where both are approved, else 290
abbrev pub level_of : Bool → ℤ
level_of true = fl410
level_of false = fl290

-- two rows lose separation at n/d, where the greater minimum holds above that level
pub record LosesAbove (rules : Rules) (level : ℤ) (a b : Row) (n d : ℤ) : Type 0 where
  pub horizontal : (apart_x a b n d *ℤ apart_x a b n d +ℤ apart_y a b n d *ℤ apart_y a b n d)
      <ℤ (width rules a b n d *ℤ width rules a b n d)
  pub vertical : IsNearAt rules.sv a b n d ⊎ (IsNearAt rules.sv2 a b n d × IsOneAboveAt level a b n d)
