-- Seats and what they hold, as contracts see them.
use Rattle.atomic_table.specs.Seated.{TableId}
use Rattle.mt_turn.specs.declared.view.View.{View}

-- a seat: its turn, and what it knows
pub record SeatNow (E F : Type 0) : Type 0 where
  pub home : TableId
  pub view : View E F

-- a lent value: its turn, then and now
pub record Loan (T : Type 0) : Type 0 where
  pub home : TableId
  pub lent : T
  pub value : T
