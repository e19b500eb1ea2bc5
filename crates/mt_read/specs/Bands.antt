-- The bands of a type, read of a list of lists of four numbers.
use Rattle.std.specs.Prelude.{ℤ, pos, List, length, Bool, Option, Some, None, is_some, option_and_then, nat_le, int_le, ◌&&◌, unsigned_abs, if◌then◌else◌}
use Rattle.serde_json.specs.Data.{Data, Items, no_items, item}
use Rattle.serde_json.specs.Find.{as_array}
use Rattle.mt_base.specs.declared.band.Band.{Band}
use Rattle.mt_json.specs.Field.{as_whole}
use Rattle.mt_read.specs.Field.{as_list_of}

-- a band's values: top, speed, climb, descent
pub record Four : Type 0 where
  pub top : Data
  pub speed : Data
  pub climb : Data
  pub descent : Data

-- `four_of`, `as_four`: a list of exactly four
abbrev pub four_of : Items → Option Four
four_of (item top (item speed (item climb (item descent no_items)))) = Some (record { top = top; speed = speed; climb = climb; descent = descent })
four_of ds = None

abbrev pub as_four : Data → Option Four
as_four d = option_and_then four_of (as_array d)

-- each of them is a whole number
abbrev pub are_whole : Four → Bool
are_whole n = is_some (as_whole n.top) && is_some (as_whole n.speed) && is_some (as_whole n.climb) && is_some (as_whole n.descent)

-- a list of exactly four whole numbers
abbrev pub as_numbers : Data → Option Four
as_numbers d = option_and_then (λ n. if are_whole n then Some n else None) (as_four d)

-- a whole number within bounds
abbrev pub as_bounded : ℤ → ℤ → Data → Option ℤ
as_bounded low high d = option_and_then (λ z. if int_le low z && int_le z high then Some z else None) (as_whole d)

-- a band, where each of its numbers is there
abbrev pub band : Option ℤ → Option ℤ → Option ℤ → Option ℤ → Option Band
band (Some top) (Some speed) (Some climb) (Some descent) = Some (record { top = unsigned_abs top; speed = speed; climb = climb; descent = descent })
band top speed climb descent = None

-- a band within bounds. Its top is a flight level of 1 to 600, its speed 1 to 1,000 knots, and each rate 1 to 10,000 feet a minute.
abbrev pub band_of : Four → Option Band
band_of n = band (as_bounded (pos 1) (pos 600) n.top) (as_bounded (pos 1) (pos 1000) n.speed) (as_bounded (pos 1) (pos 10000) n.climb) (as_bounded (pos 1) (pos 10000) n.descent)

-- a list of four numbers that is a band
abbrev pub as_band : Data → Option Band
as_band d = option_and_then band_of (as_four d)

-- `are_few`, `as_bands`: 1 to 8 bands
abbrev pub are_few : List Band → Bool
are_few bands = nat_le 1 (length bands) && nat_le (length bands) 8

abbrev pub as_bands : Data → Option (List Band)
as_bands d = option_and_then (λ bands. if are_few bands then Some bands else None) (as_list_of as_band d)
