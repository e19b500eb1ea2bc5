-- No public contract names these: they are of private steps and of proofs.
-- Where items are in the windows of the clock, page by page.
use Rattle.std.specs.Prelude.{◌≡◌, ◌<◌, ◌+◌, ◌*◌, ◌/◌, ◌%◌, ◌^◌, ℕ, pos, List, Option, Some, None, All, get_or, length, ⊤}
use Rattle.std.specs.Int.{bit_at, div_ceil}
use Rattle.mt_base.specs.declared.rules.Rules.{Rules}
use Rattle.mt_cover.specs.Sliced.{AreSlices, Have, Sliced, slice_at}
use Rattle.mt_meet.specs.declared.boxes.Boxes.{Boxes}
use Rattle.mt_meet.specs.declared.marked_parts.MarkedParts.{MarkedParts}
use Rattle.mt_meet.specs.declared.steps.Bounds.{Bounds}
use Rattle.mt_meet.specs.declared.subject.Window.{Window}
use Rattle.mt_meet.specs.Searching.{part_at}
use Rattle.mt_meet.specs.Private.Stepping.{Cross, IsBoxedBy, IsGuardedBy, nowhere}

-- `bounds_at`, `bounds_in`: the bounds of the item at a place of a page in a window
abbrev pub bounds_at : Boxes → ℕ → Bounds
bounds_at b place = record {
  west = get_or b.west place (pos 0);
  east = get_or b.east place (pos 0);
  south = get_or b.south place (pos 0);
  north = get_or b.north place (pos 0);
  low = get_or b.low place (pos 0);
  high = get_or b.high place (pos 0);
}

abbrev pub bounds_in : Option Boxes → ℕ → Bounds
bounds_in None place = nowhere
bounds_in (Some b) place = bounds_at b place

-- a page's boxes of the windows whose number leaves a remainder
abbrev pub boxes_in : Option (List (Option Boxes)) → ℕ → Option Boxes
boxes_in None remainder = None
boxes_in (Some page) remainder = get_or page remainder None

-- what stands for an item, if anything, are slices
abbrev pub AreSlicesIn : Option Sliced → Type 0
AreSlicesIn None = ⊤
AreSlicesIn (Some s) = AreSlices s

-- what stands for an item has no second
abbrev pub HasNoSecond : Option Sliced → Type 0
HasNoSecond x = (theirs : Sliced) (k : ℕ) → x ≡ Some theirs → ¬ Have theirs k

-- an item's slices lie between its bounds on a page. They do so in each second, by the remainder of its window's number by 64.
abbrev pub IsBoxed : Option Sliced → (ℕ → Option Boxes) → ℕ → Type 0
IsBoxed x boxes place = (theirs : Sliced) (k : ℕ) → x ≡ Some theirs → Have theirs k
    → IsBoxedBy (bounds_in (boxes (k / 256 % 64)) place) theirs.rvsm (slice_at theirs k)

-- a page has boxes of 64 windows, where it is there
abbrev pub HasAllWindows : Option (List (Option Boxes)) → Type 0
HasAllWindows None = ⊤
HasAllWindows (Some page) = length page ≡ 64

-- `page_of`, `place_of`: of 128 items in a row the even ones are on one page, and the odd ones on the next
abbrev pub page_of : ℕ → ℕ
page_of item = 2 * (item / 128) + item % 2

abbrev pub place_of : ℕ → ℕ
place_of item = item % 128 / 2

-- the pages have the bounds of each item. The items are so many that 32 bits count them.
pub record AreBoxesKept (count : ℕ) (table : List (Option Sliced)) (pages : List (Option (List (Option Boxes)))) : Type 0 where
  pub count_is : count ≡ length table
  pub few : count < 2 ^ 32
  pub each : All AreSlicesIn table
  pub pages_are : length pages ≡ 2 * div_ceil count 128
  pub full : All HasAllWindows pages
  pub boxed : (item : ℕ) → IsBoxed (get_or table item None) (boxes_in (get_or pages (page_of item) None)) (place_of item)

-- a subject's bounds have a step in common with those of the item at a place, where there are boxes
abbrev pub CrossesIn : Bounds → Option Boxes → ℕ → Type 0
CrossesIn own None place = ⊥
CrossesIn own (Some b) place = Cross own (bounds_at b place)

-- a subject in a window has a step in common with the item at a place of a page
abbrev pub IsCrossedIn : List (Option Boxes) → Window → ℕ → Type 0
IsCrossedIn page window place = CrossesIn window.bounds (get_or page window.remainder None) place

-- a part is marked for the item at a place: its bit is 1
abbrev pub IsPartMarked : MarkedParts → ℕ → ℕ → Type 0
IsPartMarked marks place part = bit_at (get_or marks.parts place 0) part ≡ 1

-- what stands for no window
abbrev pub no_window : Window
no_window = record {
  remainder = 0;
  part = 0;
  bounds = record { west = pos 0; east = pos 0; south = pos 0; north = pos 0; low = pos 0; high = pos 0 };
}

-- some slices, with higher and lower heights, lie between the bounds of one of these windows in second k, and it has the bit of the second's part
pub record IsGuardedAt (rules : Rules) (s : Sliced) (windows : List Window) (k : ℕ) : Type 0 where
  pub place : ℕ
  pub within : place < length windows
  pub remainder_is : (get_or windows place no_window).remainder ≡ k / 256 % 64
  pub part_is : bit_at (get_or windows place no_window).part (part_at s k) ≡ 1
  pub guarded : IsGuardedBy rules (get_or windows place no_window).bounds s.rvsm (slice_at s k)

-- so they do in each second, and the numbers of windows are remainders by 64
pub record AreGuarded (rules : Rules) (s : Sliced) (windows : List Window) : Type 0 where
  pub few : (place : ℕ) → place < length windows → (get_or windows place no_window).remainder < 64
  pub each : (k : ℕ) → Have s k → IsGuardedAt rules s windows k
