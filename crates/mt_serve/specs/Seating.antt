-- Seats that are split off the first one, and joined into it again.
use Rattle.std.specs.Prelude.{ℕ, List, map}
use Rattle.mt_base.specs.declared.command.Entry.{Entry}
use Rattle.mt_base.specs.Tables.{Setup}
use Rattle.mt_turn.specs.Seats.{SeatNow}

-- the numbers of some seats
abbrev pub numbers_of : List (SeatNow Entry Setup) → List ℕ
numbers_of seats = map (λ (s : SeatNow Entry Setup). s.view.number) seats
