-- No public contract names these: they are of private steps and of proofs.
-- The lines that are below 0 where a position is inside an area. Time is counted in seconds from the row's.
use Rattle.std.specs.Prelude.{◌≡◌, ℕ, ℤ, pos, neg_ℤ, ◌*◌, ◌<◌, ◌+ℤ◌, ◌-ℤ◌, ◌*ℤ◌, ◌<ℤ◌, ◌≤ℤ◌, ◌↔◌, List, All, length}
use Rattle.mt_base.specs.declared.area.Area.{Area}
use Rattle.mt_base.specs.declared.row.Row.{Row}
use Rattle.mt_base.specs.Area.{IsInsideAt, LiesLeft, corner, cross, place_after}
use Rattle.mt_base.specs.Instant.{value_at}
use Rattle.mt_frac.specs.declared.linear.Linear.{Linear}
use Rattle.mt_frac.specs.Meeting.{AreBelow, IsBoundedSide}
use Rattle.mt_frac.specs.Polynomials.{line_value}

-- how far the position is to the right of the way from one corner to another, times that way's length
abbrev pub side_of : Row → ℤ × ℤ → ℤ × ℤ → Linear
side_of row i j = record {
  b = cross row.vx row.vy (j.0 -ℤ i.0) (j.1 -ℤ i.1);
  c = cross (row.x -ℤ i.0) (row.y -ℤ i.1) (j.0 -ℤ i.0) (j.1 -ℤ i.1);
}

-- `floor_of`, `line_to_ceiling`: how far the height is below a level, and above one
abbrev pub floor_of : Row → ℕ → Linear
floor_of row level = record { b = neg_ℤ row.vz; c = pos (6000 * level) -ℤ row.z }

abbrev pub line_to_ceiling : Row → ℕ → Linear
line_to_ceiling row level = record { b = row.vz; c = row.z -ℤ pos (6000 * level) }

-- what a line says of instant n/d, by its place among the eighteen. That the position is to the left of the side of that number, that it is above the
-- bottom, or below the top. Places between say nothing.
pub record Says (area : Area) (row : Row) (i : ℕ) (n d : ℤ) : Type 0 where
  pub left : i < length area.corners
      → LiesLeft (corner area.corners i) (corner area.corners (place_after area.corners i)) (value_at row.x row.vx n d) (value_at row.y row.vy n d) d
  pub above : i ≡ 16 → (pos (6000 * area.bottom) *ℤ d) <ℤ value_at row.z row.vz n d
  pub below : i ≡ 17 → value_at row.z row.vz n d <ℤ (pos (6000 * area.top) *ℤ d)

-- the line is below 0 exactly where that holds
abbrev pub IsLineOf : Area → Row → ℕ → Linear → Type 0
IsLineOf area row i line = (n d : ℤ) → pos 0 <ℤ d → (line_value line.b line.c n d <ℤ pos 0) ↔ Says area row i n d

-- n/d is an instant of the first so many seconds, or their end
pub record IsDuringOrAtEnd (seconds : ℕ) (n d : ℤ) : Type 0 where
  pub positive : pos 0 <ℤ d
  pub begun : pos 0 ≤ℤ n
  pub within : n ≤ℤ (pos seconds *ℤ d)

-- `value_after`, `StaysBelow`, `StaysAboveLine`: a line's value at the end of that time; it is below 0 at both ends, or at neither
abbrev pub value_after : Linear → ℕ → ℤ
value_after line seconds = line.b *ℤ pos seconds +ℤ line.c

abbrev pub StaysBelow : Linear → ℕ → Type 0
StaysBelow line seconds = (line.c <ℤ pos 0) × (value_after line seconds <ℤ pos 0)

abbrev pub StaysAboveLine : Linear → ℕ → Type 0
StaysAboveLine line seconds = (pos 0 ≤ℤ line.c) × (pos 0 ≤ℤ value_after line seconds)

-- the lines are all below 0 exactly where the position is inside, during that time
pub record AreCrossed (area : Area) (row : Row) (seconds : ℕ) (lines : List Linear) : Type 0 where
  pub bounded : All IsBoundedSide lines
  pub inside : (n d : ℤ) → IsDuringOrAtEnd seconds n d → AreBelow lines n d ↔ IsInsideAt area row n d
