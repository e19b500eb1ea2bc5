-- What a seat's command is answered.
use Rattle.std.specs.Prelude.{◌≡◌, List, [], ◌∷◌, ◌++◌, Result, Ok, Err}
use Rattle.mt_base.specs.declared.command.Command.{Command}
use Rattle.mt_base.specs.declared.command.Entered.{Entered}
use Rattle.mt_base.specs.declared.command.Entry.{Entry}
use Rattle.mt_base.specs.declared.command.Refusal.{Refusal}
use Rattle.mt_base.specs.Decision.{IsDecided}
use Rattle.mt_base.specs.Effect.{entered_by, state_of}
use Rattle.mt_board.specs.declared.no.No.{No}
use Rattle.mt_board.specs.declared.no.No.TheVariants.{Memory, Refused}
use Rattle.mt_board.specs.BoardSeat.{BoardSeat, GoesOn, HasLooked, HasSeen, IsSameSeat, IsSeatSound, state_seen}

-- the seat's command was entered, exactly once, as decided on the entries before it. It is the last of what the seat has seen, and the one entry more
-- that is its own. It is answered by its version and, of a report, the verdict.
pub record HasEntered (s t : BoardSeat) (command : Command) (entered : Entered) : Type 0 where
  pub same : IsSameSeat s t
  pub front : List Entry
  pub entry : Entry
  pub begins : GoesOn s.seen front
  pub decided : IsDecided s.fixed (state_of s.fixed front) s.number command (Ok entry)
  pub entered_is : entered ≡ entered_by s.fixed (state_of s.fixed front) entry
  pub seen : t.seen ≡ front ++ entry ∷ []
  pub mine : t.mine ≡ s.mine ++ entry ∷ []
  pub sound : IsSeatSound t

-- a call is refused at a version seen, or memory ran out; the seat entered nothing
abbrev pub IsDenied : BoardSeat → (Refusal → Type 0) → No → BoardSeat → Type 0
IsDenied s why (Refused refusal version) t = HasSeen s t version × why refusal
IsDenied s why Memory t = HasLooked s t

-- a seat's command is entered, or refused as decided
abbrev pub IsChanged : BoardSeat → Command → Result Entered No → BoardSeat → Type 0
IsChanged s command (Ok entered) t = HasEntered s t command entered
IsChanged s command (Err denied) t = IsDenied s (λ refusal. IsDecided t.fixed (state_seen t) t.number command (Err refusal)) denied t
