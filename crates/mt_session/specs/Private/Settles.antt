-- No public contract names these: they are of private steps and of proofs.
-- Settling as a session does it, step by step.
use Rattle.std.specs.Prelude.{ℕ, Bool, true, false, List, Option, Some, None, Result, Ok, Err}
use Rattle.mt_base.specs.declared.command.Entered.{Entered}
use Rattle.mt_board.specs.declared.ask.Answer.{Answer}
use Rattle.mt_board.specs.declared.ask.Answer.TheVariants as answers
use Rattle.mt_board.specs.declared.no.No.{No}
use Rattle.mt_board.specs.declared.no.No.TheVariants as no
use Rattle.mt_board.specs.BoardSeat.{BoardSeat}
use Rattle.mt_board.specs.Settling.{IsNotSettled, HasSettled}

-- memory ran out
abbrev pub is_starved : Result Entered No → Bool
is_starved (Err no.Memory) = true
is_starved result = false

-- the flights that were answered as due, and the version
abbrev pub told_due : Result Answer No → Option (List (List ℕ) × ℕ)
told_due (Ok (answers.Due calls version)) = Some (calls, version)
told_due result = None

-- what settling gives: the flights left and the version, or that memory ran out
abbrev pub Settles : BoardSeat → Option (List (List ℕ) × ℕ) → BoardSeat → Type 0
Settles s (Some told) t = HasSettled s t told.0 told.1
Settles s None t = IsNotSettled s t
