-- No public contract names these: they are of private steps and of proofs.
-- A search through some items.
use Rattle.std.specs.Prelude.{ℕ, List, Option, Some, None}
use Rattle.mt_cover.specs.Sliced.{Sliced}
use Rattle.mt_meet.specs.Meeting.{Asked, IsFirstMet, MeetNone}
use Rattle.mt_meet.specs.declared.table.Met.{Met}

-- the first item, from one on, that meets; or none does before another one
abbrev pub IsNextBetween : Asked → List (Option Sliced) → ℕ → ℕ → Option Met → Type 0
IsNextBetween asked table from to (Some met) = IsFirstMet asked.rules asked.sliced table from met
IsNextBetween asked table from to None = MeetNone asked.rules asked.sliced table from to
