-- How many pair tests there are.
use Rattle.std.specs.Prelude.{ℕ, Bool, List}
use Rattle.std.specs.List.{count_by, sum_by}
use Rattle.std.specs.Cmp.Lexicographic.{slice_cmp}
use Rattle.std.specs.Ordering.{nat_cmp, is_lt}
use Rattle.mt_base.specs.Picture.{NamedTrajectory}

-- the first trajectory has the lesser callsign
abbrev pub is_before : NamedTrajectory → NamedTrajectory → Bool
is_before left right = is_lt (slice_cmp nat_cmp left.call right.call)

-- how many of these have a greater callsign
abbrev pub tests_of_left : List NamedTrajectory → NamedTrajectory → ℕ
tests_of_left rights left = count_by (is_before left) rights

-- how many pairs of different flights a list has. Each is counted where the lesser callsign stands first.
abbrev pub pairs_of_different_flights : List NamedTrajectory → ℕ
pairs_of_different_flights all = sum_by (tests_of_left all) all
