-- No public contract names these: they are of private steps and of proofs.
use Rattle.std.specs.Prelude.{◌≡◌, ℕ, List, Err, ⊤}
use Rattle.mt_read.specs.declared.request.LineNo.{LineNo}
use Rattle.mt_read.specs.Entry.{entry}
use Rattle.mt_history.specs.declared.reading.BadHistory.{BadHistory}
use Rattle.mt_history.specs.declared.reading.BadHistory.TheVariants.{Line, Memory}

-- why the line at a place is not read
abbrev pub IsBadLine : List ℕ → ℕ → BadHistory → Type 0
IsBadLine line place (Line named) = (named ≡ place) × ((refusal : LineNo) × (entry line ≡ Err refusal))
IsBadLine line place Memory = ⊤
