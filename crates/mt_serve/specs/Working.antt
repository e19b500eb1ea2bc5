-- What a worker does.
use Rattle.std.specs.Prelude.{◌≡◌, ℕ, Bool, List, ◌++◌, All}
use Rattle.std.specs.List.{count_by}
use Rattle.mt_base.specs.declared.command.Command.TheVariants.{Renew}
use Rattle.mt_base.specs.declared.command.Entry.{Entry}
use Rattle.mt_base.specs.Tables.{Setup}
use Rattle.mt_board.specs.BoardSeat.{GoesOn}
use Rattle.mt_turn.specs.declared.view.Phase.TheVariants.{Idle}
use Rattle.mt_turn.specs.Lending.{AreViewsOfOneSeat}
use Rattle.mt_turn.specs.Seats.{SeatNow}

-- the entry renews a flight
abbrev pub IsRenewal : Entry → Type 0
IsRenewal e = (call : List ℕ) × (e.command ≡ Renew call)

-- a worker gave back its seat, without the turn. With the seat `before` it gave back `after`, the same seat of the same turn. Each entry that it made
-- is a renewal.
pub record HasWorkedInSeat (before after : SeatNow Entry Setup) : Type 0 where
  pub home : after.home ≡ before.home
  pub idle : after.view.phase ≡ Idle
  pub same : AreViewsOfOneSeat before.view after.view
  pub begins : GoesOn before.view.seen after.view.seen
  pub added : List Entry
  pub mine : after.view.mine ≡ before.view.mine ++ added
  pub renewals : All IsRenewal added

-- `Worked`, `IsRested`: the seat that a worker was given, the one that it gave back, and whether it worked until no job
-- would come
pub record Worked : Type 0 where
  pub from : SeatNow Entry Setup
  pub seat : SeatNow Entry Setup
  pub has_worked : Bool

abbrev pub IsRested : Worked → Type 0
IsRested w = HasWorkedInSeat w.from w.seat

-- how many workers worked until no job would come
abbrev pub staff_of : List Worked → ℕ
staff_of works = count_by (λ (w : Worked). w.has_worked) works
