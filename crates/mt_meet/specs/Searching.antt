-- A search through the items of a table.
use Rattle.std.specs.Prelude.{◌≡◌, ◌<◌, ◌+◌, ◌-◌, ◌*◌, ◌/◌, ◌%◌, ℕ, List, Option, Some, None, get_or, IfSome}
use Rattle.std.specs.Int.{bit_at, div_ceil}
use Rattle.mt_cover.specs.Sliced.{Sliced}
use Rattle.mt_meet.specs.Meeting.{Asked, MeetAt}
use Rattle.mt_meet.specs.declared.marked_parts.MarkedParts.{MarkedParts}
use Rattle.mt_meet.specs.declared.search.Search.{Search}

-- the item at a place of a page: even pages have even items, odd pages have odd ones. Two pages have 128 items in a row.
abbrev pub item_at : ℕ → ℕ → ℕ
item_at page place = 128 * (page / 2) + 2 * place + page % 2

-- `windows_a_part`, `part_at`: 16 parts of some slices' time have all of its windows, each so many; and in which part second k is
abbrev pub windows_a_part : Sliced → ℕ
windows_a_part s = div_ceil (div_ceil s.to 256 - s.from / 256) 16

abbrev pub part_at : Sliced → ℕ → ℕ
part_at s k = (k / 256 - s.from / 256) / windows_a_part s

-- an item meets ours in no second but those of some parts of our time
abbrev pub MeetsOnlyIn : Asked → List (Option Sliced) → ℕ → ℕ → Type 0
MeetsOnlyIn asked table item parts = (theirs : Sliced) (k : ℕ) → get_or table item None ≡ Some theirs → MeetAt asked.rules asked.sliced theirs k
    → bit_at parts (part_at asked.sliced k) ≡ 1

-- the items of a page of 64 meet ours in no second but those of their marked parts
abbrev pub MeetOnlyMarked : Asked → List (Option Sliced) → ℕ → MarkedParts → Type 0
MeetOnlyMarked asked table page marks = (place : ℕ) → place < 64 → MeetsOnlyIn asked table (item_at page place) (get_or marks.parts place 0)

-- a search through this table: the marks of its pages are right
abbrev pub IsSearched : Asked → List (Option Sliced) → Search → Type 0
IsSearched asked table search = IfSome search.block (λ block.
    MeetOnlyMarked asked table (2 * block) search.even × MeetOnlyMarked asked table (2 * block + 1) search.odd)
