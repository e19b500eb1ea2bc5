-- What a worker makes of its jobs.
use Rattle.std.specs.Prelude.{◌≡◌, ℕ, List, Option, Result, IfSome}
use Rattle.mt_base.specs.declared.command.Entered.{Entered}
use Rattle.mt_board.specs.declared.no.No.{No}
use Rattle.mt_board.specs.BoardSeat.{BoardSeat}
use Rattle.mt_board.specs.Settling.{AreRenewalsAsked}

-- all jobs were done. The seat asked to renew the flight of each, in order.
pub record HasWorkedAll (left : Option (List (List ℕ))) (s t : BoardSeat) : Type 0 where
  pub calls : List (List ℕ)
  pub all : IfSome left (λ jobs. jobs ≡ calls)
  pub results : List (Result Entered No)
  pub renewed : AreRenewalsAsked s calls results t
