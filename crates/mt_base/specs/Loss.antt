use Rattle.std.specs.Prelude.{◌≡◌, ◌&&◌, Bool, false, ℤ, pos, neg_ℤ, ◌+ℤ◌, ◌-ℤ◌, ◌*ℤ◌, ◌<ℤ◌, ◌≤ℤ◌, ◌⊎◌}
use Rattle.mt_base.specs.declared.row.Row.{Row}
use Rattle.mt_base.specs.declared.rules.Rules.{Rules}
use Rattle.mt_base.specs.Instant.{value_at}

-- `apart_x`, `apart_y`, `apart_z`: the distances of two rows at instant n/d, times d. x and y count 1/3600 NM, z counts 1/60 foot.
abbrev pub apart_x : Row → Row → ℤ → ℤ → ℤ
apart_x a b n d = value_at b.x b.vx n d -ℤ value_at a.x a.vx n d

abbrev pub apart_y : Row → Row → ℤ → ℤ → ℤ
apart_y a b n d = value_at b.y b.vy n d -ℤ value_at a.y a.vy n d

abbrev pub apart_z : Row → Row → ℤ → ℤ → ℤ
apart_z a b n d = value_at b.z b.vz n d -ℤ value_at a.z a.vz n d

-- `width`, `height`: the horizontal and a vertical minimum with both margins, times d
abbrev pub width : Rules → Row → Row → ℤ → ℤ → ℤ
width rules a b n d = rules.sh *ℤ d +ℤ value_at a.r a.gr n d +ℤ value_at b.r b.gr n d

abbrev pub height : ℤ → Row → Row → ℤ → ℤ → ℤ
height least a b n d = least *ℤ d +ℤ value_at a.w a.gw n d +ℤ value_at b.w b.gw n d

-- `fl290`, `fl410`: the heights of flight levels 290 and 410, in 1/60 foot
abbrev pub fl290 : ℤ
fl290 = pos 1740000

abbrev pub fl410 : ℤ
fl410 = pos 2460000

-- the vertical distance is strictly below its minimum with both margins
pub record IsNearAt (least : ℤ) (a b : Row) (n d : ℤ) : Type 0 where
  pub above : neg_ℤ (apart_z a b n d) <ℤ height least a b n d
  pub below : apart_z a b n d <ℤ height least a b n d

-- one of the two is strictly above that height
abbrev pub IsOneAboveAt : ℤ → Row → Row → ℤ → ℤ → Type 0
IsOneAboveAt level a b n d = ((level *ℤ d) <ℤ value_at a.z a.vz n d) ⊎ ((level *ℤ d) <ℤ value_at b.z b.vz n d)

-- two rows lose separation at instant n/d: both distances are strictly below their minima, `sv` or up high `sv2`. Vertically: below `sv`; or below
-- `sv2` and one of the two is above flight level 410; or below `sv2`, not both aircraft are approved for RVSM, and one of the two is above flight
-- level 290.
pub record LosesAt (rules : Rules) (pa pb : Bool) (a b : Row) (n d : ℤ) : Type 0 where
  pub horizontal : (apart_x a b n d *ℤ apart_x a b n d +ℤ apart_y a b n d *ℤ apart_y a b n d)
      <ℤ (width rules a b n d *ℤ width rules a b n d)
  pub vertical : IsNearAt rules.sv a b n d
      ⊎ (IsNearAt rules.sv2 a b n d × IsOneAboveAt fl410 a b n d)
      ⊎ (IsNearAt rules.sv2 a b n d × ((pa && pb) ≡ false) × IsOneAboveAt fl290 a b n d)

-- two rows lose separation at some instant of the second
pub record LosesIn (rules : Rules) (pa pb : Bool) (a b : Row) : Type 0 where
  pub n : ℤ
  pub d : ℤ
  pub begun : pos 0 ≤ℤ n
  pub within : n <ℤ d
  pub loss : LosesAt rules pa pb a b n d
