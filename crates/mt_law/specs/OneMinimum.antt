-- Loss of separation by one vertical minimum alone.
use Rattle.std.specs.Prelude.{ℤ, neg_ℤ, ◌+ℤ◌, ◌*ℤ◌, ◌<ℤ◌}
use Rattle.mt_base.specs.declared.row.Row.{Row}
use Rattle.mt_base.specs.declared.rules.Rules.{Rules}
use Rattle.mt_base.specs.Loss.{apart_x, apart_y, apart_z, height, width}

-- two rows lose separation at instant n/d by `sv` alone: both distances are strictly below their minima
pub record LosesByOneAt (rules : Rules) (a b : Row) (n d : ℤ) : Type 0 where
  pub horizontal : (apart_x a b n d *ℤ apart_x a b n d +ℤ apart_y a b n d *ℤ apart_y a b n d)
      <ℤ (width rules a b n d *ℤ width rules a b n d)
  pub above : neg_ℤ (apart_z a b n d) <ℤ height rules.sv a b n d
  pub below : apart_z a b n d <ℤ height rules.sv a b n d
