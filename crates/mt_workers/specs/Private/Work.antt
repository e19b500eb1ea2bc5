-- No public contract names these: they are of private steps and of proofs.
use Rattle.std.specs.Prelude.{ℕ, List, Option, Result}
use Rattle.mt_base.specs.declared.command.Entered.{Entered}
use Rattle.mt_board.specs.declared.no.No.{No}
use Rattle.mt_board.specs.BoardSeat.{BoardSeat}
use Rattle.mt_board.specs.Settling.{AreRenewalsAsked}
use Rattle.mt_workers.specs.Jobs.{AreTaken}

-- these jobs were taken, and the seat asked to renew the flight of each, in order, whatever it was answered
pub record HasWorked (left now : Option (List (List ℕ))) (s t : BoardSeat) : Type 0 where
  pub calls : List (List ℕ)
  pub taken : AreTaken left now calls
  pub results : List (Result Entered No)
  pub renewed : AreRenewalsAsked s calls results t
