-- No public contract names these: they are of private steps and of proofs.
use Rattle.std.specs.Prelude.{ℕ, Option, Some, None, Result, Ok, ⊤}
use Rattle.mt_board.specs.declared.ask.Answer.{Answer}
use Rattle.mt_board.specs.declared.ask.Answer.TheVariants as answers
use Rattle.mt_board.specs.declared.no.No.{No}
use Rattle.mt_read.specs.declared.request.Request.{Request}
use Rattle.mt_read.specs.declared.request.Request.TheVariants as requests

-- the version at which entries are answered
abbrev pub told_version : Result Answer No → Option ℕ
told_version (Ok (answers.History entries version)) = Some version
told_version result = None

-- it asks for no change
abbrev pub IsNoChange : Request → Type 0
IsNoChange (requests.Change command) = ⊥
IsNoChange request = ⊤
