-- A desk, its seats and its hands, as contracts see them.
use Rattle.std.specs.Prelude.{◌≡◌, Bool, Some}
use Rattle.atomic_table.specs.Seated.{TableId}
use Rattle.mt_base.specs.declared.command.Entry.{Entry}
use Rattle.mt_base.specs.Tables.{Setup}
use Rattle.mt_board.specs.BoardSeat.{BoardSeat}
use Rattle.mt_turn.specs.declared.view.Phase.TheVariants.{Idle}
use Rattle.mt_turn.specs.declared.view.View.{View}
use Rattle.mt_turn.specs.Seats.{SeatNow}

-- the turn of a desk's seats, with rules and tables that never change
pub record Desk : Type 0 where
  pub home : TableId
  pub fixed : Setup

-- a seat of the desk, without the turn
pub record IsSeatOfDesk (d : Desk) (p : SeatNow Entry Setup) : Type 0 where
  pub home_is : p.home ≡ d.home
  pub idle : p.view.phase ≡ Idle
  pub fixed_is : p.view.fixed ≡ Some d.fixed

-- a seat as a board has it
abbrev pub seat_of : Setup → View Entry Setup → BoardSeat
seat_of fixed v = record { number = v.number; seen = v.seen; mine = v.mine; fixed = fixed }

-- a desk, what its seat knows, and whether it keeps a look at the picture
pub record Hand : Type 0 where
  pub desk : Desk
  pub view : View Entry Setup
  pub keeps_look : Bool

-- the seat of a hand
abbrev pub seat_of_hand : Hand → SeatNow Entry Setup
seat_of_hand h = record { home = h.desk.home; view = h.view }
