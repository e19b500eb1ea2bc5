-- What a seat's read is answered, by the history that it has seen.
use Rattle.std.specs.Prelude.{◌≡◌, ℕ, ◌-◌, List, take, drop, Some, None, Result, Ok, Err, option_map, ⊤}
use Rattle.mt_base.specs.declared.command.Entry.{Entry}
use Rattle.mt_base.specs.declared.command.Refusal.{Refusal}
use Rattle.mt_base.specs.declared.command.Refusal.TheVariants.{UnknownCall}
use Rattle.mt_base.specs.Effect.{state_of}
use Rattle.mt_base.specs.Picture.{IsPublished, flight_of}
use Rattle.mt_base.specs.Settled.{due_calls}
use Rattle.mt_base.specs.Tables.{Setup}
use Rattle.mt_base.specs.View.{view_of}
use Rattle.mt_board.specs.declared.ask.Answer.{Answer}
use Rattle.mt_board.specs.declared.ask.Answer.TheVariants as answers
use Rattle.mt_board.specs.declared.ask.Ask.{Ask}
use Rattle.mt_board.specs.declared.ask.Ask.TheVariants as asks
use Rattle.mt_board.specs.declared.no.No.{No}
use Rattle.mt_board.specs.Changing.{IsDenied}
use Rattle.mt_board.specs.BoardSeat.{BoardSeat, HasSeen}
use Rattle.mt_board.specs.Short.{AreFewCalls}

-- the version that an answer names
abbrev pub version_of : Answer → ℕ
version_of (answers.List conflicts version) = version
version_of (answers.Check conflicts version) = version
version_of (answers.Due calls version) = version
version_of (answers.Flight view) = view.version
version_of (answers.History entries version) = version

-- an answer is right for a history: conflicts published, flights due, a view, or entries
abbrev pub IsTold : Setup → List Entry → Ask → Answer → Type 0
IsTold fixed h asks.List (answers.List conflicts version) = IsPublished fixed (state_of fixed h) conflicts
IsTold fixed h asks.Check (answers.Check conflicts version) = IsPublished fixed (state_of fixed h) conflicts
IsTold fixed h asks.Due (answers.Due calls version) = calls ≡ due_calls (state_of fixed h).records
IsTold fixed h (asks.Flight call sec) (answers.Flight view) =
    option_map (view_of fixed (state_of fixed h) sec) (flight_of (state_of fixed h).records call) ≡ Some view
IsTold fixed h (asks.History from to) (answers.History entries version) = entries ≡ take (to - from) (drop from h)
IsTold fixed h asked answer = ⊥

-- the one refusal of a read: no flight has that callsign
abbrev pub IsNotTold : Setup → List Entry → Ask → Refusal → Type 0
IsNotTold fixed h (asks.Flight call sec) refusal = (flight_of (state_of fixed h).records call ≡ None) × (refusal ≡ UnknownCall call)
IsNotTold fixed h asked refusal = ⊥

-- a read is answered by the history then seen
abbrev pub IsRead : BoardSeat → Ask → Result Answer No → BoardSeat → Type 0
IsRead s asked (Ok answer) t = HasSeen s t (version_of answer) × IsTold t.fixed t.seen asked answer
IsRead s asked (Err denied) t = IsDenied s (IsNotTold t.fixed t.seen asked) denied t

-- an answer after a change fits its room
abbrev pub IsShortAnswer : Answer → Type 0
IsShortAnswer (answers.Due calls version) = AreFewCalls calls
IsShortAnswer answer = ⊤
