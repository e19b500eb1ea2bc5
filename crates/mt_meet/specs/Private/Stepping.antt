-- No public contract names these: they are of private steps and of proofs.
-- Where a trajectory is in a window of the clock, in steps: of 1,024 units east and north, and of 1,000 units in height.
use Rattle.std.specs.Prelude.{◌≡◌, ◌⊎◌, Bool, true, ℕ, ℤ, pos, neg_ℤ, ◌+ℤ◌, ◌-ℤ◌, ◌≤ℤ◌, ◌/◌, unsigned_abs}
use Rattle.std.specs.Int.{int_max, int_min}
use Rattle.mt_base.specs.declared.rules.Rules.{Rules}
use Rattle.mt_cover.specs.declared.bounding_box.Extent.{Extent}
use Rattle.mt_cover.specs.declared.layer.Layer.{Layer}
use Rattle.mt_cover.specs.declared.sliced.Slice.{Slice}
use Rattle.mt_pair.specs.High.{level_of}
use Rattle.mt_meet.specs.declared.steps.Bounds.{Bounds}

-- in which of 32,768 steps of 1,024 units a value lies. What lies beyond counts to the first or the last.
abbrev pub step : ℤ → ℕ
step z = unsigned_abs (int_min (int_max z (neg_ℤ (pos 16777216))) (pos 16777215) +ℤ pos 16777216) / 1024

-- in which of 32,000 steps of 1,000 units a height lies, so that a flight level begins one. What lies beyond counts to the first or the last.
abbrev pub height_step : ℤ → ℕ
height_step z = unsigned_abs (int_min (int_max z (neg_ℤ (pos 16000000))) (pos 15999999) +ℤ pos 16000000) / 1000

-- the steps of positions east and north, and of a least and a greatest height
abbrev pub bounds_of : Extent → Extent → ℤ → ℤ → Bounds
bounds_of x y low high = record {
  west = pos (step x.low);
  east = pos (step x.high);
  south = pos (step y.low);
  north = pos (step y.high);
  low = pos (height_step low);
  high = pos (height_step high);
}

-- `boxed_bounds`, `guard_bounds`: the steps of an item's slice and of a subject's, with the heights by which it is found or looked for. A height that ends
-- a step belongs to that step and not to the next one, so two that fly level at such heights a minimum apart have no step in common, whichever is above:
-- an item's greatest height and a subject's least one, which are compared, are rounded up, and the two others down.
abbrev pub boxed_bounds : Slice → Layer → Bounds
boxed_bounds s reach = bounds_of s.x s.y reach.low (reach.high +ℤ pos 999)

abbrev pub guard_bounds : Slice → Layer → Bounds
guard_bounds s guard = bounds_of s.x s.y (guard.low +ℤ pos 999) guard.high

-- heights, wider by so much on each side
abbrev pub wider_by : ℤ → Layer → Layer
wider_by by layer = record { low = layer.low -ℤ by; high = layer.high +ℤ by }

-- an approved aircraft's heights that end below the level where the greater vertical minimum begins
pub record IsBelowTop (approved : Bool) (layer : Layer) : Type 0 where
  pub approved_is : approved ≡ true
  pub below : layer.high ≤ℤ level_of true

-- `IsReach`, `IsGuard`: the heights by which an item is found, and by which a subject is looked for. The lesser minimum keeps apart two that end below
-- the top. Two that are a minimum apart are apart, so a guard is a unit less.
abbrev pub IsReach : Bool → Layer → Layer → Type 0
IsReach approved layer reach = (IsBelowTop approved layer × (reach ≡ layer)) ⊎ (reach ≡ wider_by (pos 600000) layer)

abbrev pub IsGuard : Rules → Bool → Layer → Layer → Type 0
IsGuard rules approved layer guard = (IsBelowTop approved layer × (guard ≡ wider_by (rules.sv -ℤ pos 1) layer)) ⊎ (guard ≡ wider_by (rules.sv2 -ℤ pos 1) layer)

-- steps between which nothing lies
abbrev pub nowhere : Bounds
nowhere = record { west = pos 32767; east = neg_ℤ (pos 1); south = pos 32767; north = neg_ℤ (pos 1); low = pos 32767; high = neg_ℤ (pos 1) }

-- steps lie between others
pub record Enclose (a b : Bounds) : Type 0 where
  pub west : a.west ≤ℤ b.west
  pub east : b.east ≤ℤ a.east
  pub south : a.south ≤ℤ b.south
  pub north : b.north ≤ℤ a.north
  pub low : a.low ≤ℤ b.low
  pub high : b.high ≤ℤ a.high

-- two trajectories have a step in common, east, north and in height
pub record Cross (a b : Bounds) : Type 0 where
  pub west : a.west ≤ℤ b.east
  pub east : b.west ≤ℤ a.east
  pub south : a.south ≤ℤ b.north
  pub north : b.south ≤ℤ a.north
  pub low : a.low ≤ℤ b.high
  pub high : b.low ≤ℤ a.high

-- these are steps by which an item with a slice is found
pub record IsBoxedBy (b : Bounds) (approved : Bool) (s : Slice) : Type 0 where
  pub reach : Layer
  pub reach_is : IsReach approved s.layer reach
  pub enclose : Enclose b (boxed_bounds s reach)

-- these are steps by which a subject with a slice is looked for
pub record IsGuardedBy (rules : Rules) (b : Bounds) (approved : Bool) (s : Slice) : Type 0 where
  pub guard : Layer
  pub guard_is : IsGuard rules approved s.layer guard
  pub enclose : Enclose b (guard_bounds s guard)
