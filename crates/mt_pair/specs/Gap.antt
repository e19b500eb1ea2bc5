-- The numbers that the pair test decides by, of two rows of one second. Time is counted in seconds from that second's start, while both keep
-- their gains.
use Rattle.std.specs.Prelude.{ℤ, pos, neg_ℤ, ◌+ℤ◌, ◌-ℤ◌, ◌*ℤ◌}
use Rattle.mt_base.specs.declared.row.Row.{Row}
use Rattle.mt_base.specs.declared.rules.Rules.{Rules}
use Rattle.mt_frac.specs.declared.linear.Linear.{Linear}
use Rattle.mt_frac.specs.declared.quadratic.Quad.{Quad}
use Rattle.mt_pair.specs.declared.horizontal.Offset.{Offset}

-- b as seen from a, and the horizontal minimum with both margins, at the start
abbrev pub offset_of : Rules → Row → Row → Offset
offset_of rules a b = record { x = b.x -ℤ a.x; y = b.y -ℤ a.y; width = rules.sh +ℤ a.r +ℤ b.r }

-- what these gain in a second
abbrev pub gain_of : Row → Row → Offset
gain_of a b = record { x = b.vx -ℤ a.vx; y = b.vy -ℤ a.vy; width = a.gr +ℤ b.gr }

-- the product in which the width counts against the distance
abbrev pub product : Offset → Offset → ℤ
product p q = p.x *ℤ q.x +ℤ p.y *ℤ q.y -ℤ p.width *ℤ q.width

-- `square_over_time`, `gap_of`: the square of the distance less that of the minimum, over time. It goes by the offset at the start and what that
-- gains in a second.
abbrev pub square_over_time : Offset → Offset → Quad
square_over_time offset gain = record { a = product gain gain; b = pos 2 *ℤ product offset gain; c = product offset offset }

abbrev pub gap_of : Rules → Row → Row → Quad
gap_of rules a b = square_over_time (offset_of rules a b) (gain_of a b)

-- the height of b above a less a vertical minimum with both margins, over time
abbrev pub excess_of : ℤ → Row → Row → Linear
excess_of least a b = record { b = b.vz -ℤ a.vz -ℤ a.gw -ℤ b.gw; c = b.z -ℤ a.z -ℤ least -ℤ a.w -ℤ b.w }

-- a level less the height of a, over time
abbrev pub above_of : ℤ → Row → Linear
above_of level a = record { b = neg_ℤ a.vz; c = level -ℤ a.z }
