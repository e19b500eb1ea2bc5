-- What is told of a picture now.
use Rattle.std.specs.Prelude.{◌≡◌, length, ⊤}
use Rattle.mt_board.specs.declared.ask.Answer.{Answer}
use Rattle.mt_board.specs.declared.ask.Ask.{Ask}
use Rattle.mt_board.specs.declared.no.No.{No}
use Rattle.mt_board.specs.declared.no.No.TheVariants as nos
use Rattle.mt_board.specs.Asking.{IsNotTold, IsTold, version_of}
use Rattle.mt_picture.specs.Story.{Story}

-- the answer is right for the history's version
pub record IsToldNow (story : Story) (asked : Ask) (answer : Answer) : Type 0 where
  pub told : IsTold story.setup story.history asked answer
  pub now : version_of answer ≡ length story.history

-- no flight has that callsign, or memory ran out. The refusal names the version of the history.
abbrev pub IsUntold : Story → Ask → No → Type 0
IsUntold story asked (nos.Refused refusal version) = IsNotTold story.setup story.history asked refusal × (version ≡ length story.history)
IsUntold story asked nos.Memory = ⊤
