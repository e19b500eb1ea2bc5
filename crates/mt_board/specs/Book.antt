-- The book of what was probed: the last 64 values, under numbers from 1 up.
use Rattle.std.specs.Prelude.{ℕ, ◌+◌, ◌-◌, List, [], ◌∷◌, ◌++◌, length, map, Option, None, slice_get, if◌then◌else◌, nat_lt}
use Rattle.mt_base.specs.Tally.{raised}
use Rattle.circular_buffer.specs.Buffer.{keep_last}

-- a count of all values, and the last 64. The newest stands last.
pub record Book (P : Type 0) : Type 0 where
  pub count : ℕ
  pub last : List P

module _ {P : Type 0} where
  -- `empty_book`, `with_probe`: an empty book, and a book with one value more. The count stays at 2^64 - 1.
  abbrev pub empty_book : Book P
  empty_book = record { count = 0; last = [] }

  abbrev pub with_probe : Book P → P → Book P
  with_probe book p = record { count = raised book.count; last = keep_last 64 (book.last ++ p ∷ []) }

  -- the value under that number, where kept
  abbrev pub probe_at : Book P → ℕ → Option P
  probe_at book n = if nat_lt book.count (n + length book.last) then slice_get book.last (n + length book.last - (book.count + 1)) else None

-- a book with some values more, in order
abbrev pub with_all : {P : Type 0} → Book P → List P → Book P
with_all book [] = book
with_all book (p ∷ ps) = with_all (with_probe book p) ps

-- a book of values, and its values as they are answered
abbrev pub told_book : {P Q : Type 0} → (P → Q) → Book P → Book Q
told_book told book = record { count = book.count; last = map told book.last }
