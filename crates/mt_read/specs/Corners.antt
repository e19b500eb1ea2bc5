-- The corners of an area, read of a list of lists of two numbers.
use Rattle.std.specs.Prelude.{ℤ, pos, neg_ℤ, List, length, Bool, Option, Some, None, is_some, option_and_then, nat_le, ◌&&◌, if◌then◌else◌}
use Rattle.serde_json.specs.Data.{Data, Items, no_items, item}
use Rattle.serde_json.specs.Find.{as_array}
use Rattle.mt_json.specs.Field.{as_whole}
use Rattle.mt_read.specs.Bands.{as_bounded}
use Rattle.mt_read.specs.Field.{as_list_of}

-- a corner's values, east and north
pub record Pair : Type 0 where
  pub east : Data
  pub north : Data

-- `pair_of`, `as_pair`: a list of exactly two
abbrev pub pair_of : Items → Option Pair
pair_of (item east (item north no_items)) = Some (record { east = east; north = north })
pair_of ds = None

abbrev pub as_pair : Data → Option Pair
as_pair d = option_and_then pair_of (as_array d)

-- each of them is a whole number
abbrev pub are_whole : Pair → Bool
are_whole p = is_some (as_whole p.east) && is_some (as_whole p.north)

-- a list of exactly two whole numbers
abbrev pub as_numbers : Data → Option Pair
as_numbers d = option_and_then (λ p. if are_whole p then Some p else None) (as_pair d)

-- a corner, where both numbers are there
abbrev pub corner_read : Option ℤ → Option ℤ → Option (ℤ × ℤ)
corner_read (Some east) (Some north) = Some (east, north)
corner_read east north = None

-- a corner within 1,024 NM of the origin
abbrev pub corner_of : Pair → Option (ℤ × ℤ)
corner_of p = corner_read (as_bounded (neg_ℤ (pos 3686400)) (pos 3686400) p.east) (as_bounded (neg_ℤ (pos 3686400)) (pos 3686400) p.north)

-- a list of two numbers that is a corner
abbrev pub as_corner : Data → Option (ℤ × ℤ)
as_corner d = option_and_then corner_of (as_pair d)

-- `are_enough`, `as_corners`: 3 to 16 corners
abbrev pub are_enough : List (ℤ × ℤ) → Bool
are_enough corners = nat_le 3 (length corners) && nat_le (length corners) 16

abbrev pub as_corners : Data → Option (List (ℤ × ℤ))
as_corners d = option_and_then (λ corners. if are_enough corners then Some corners else None) (as_list_of as_corner d)
