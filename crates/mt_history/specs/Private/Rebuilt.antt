-- No public contract names these: they are of private steps and of proofs.
use Rattle.std.specs.Prelude.{◌≡◌, length, Err, ⊤}
use Rattle.mt_base.specs.declared.command.Entry.{Entry}
use Rattle.mt_base.specs.Decision.{IsDecided}
use Rattle.mt_base.specs.Effect.{state_of}
use Rattle.mt_base.specs.History.{IsInTime}
use Rattle.mt_picture.specs.Story.{Story}
use Rattle.mt_history.specs.declared.rebuilding.Wrong.{Wrong}
use Rattle.mt_history.specs.declared.rebuilding.Wrong.TheVariants.{Illegal, Late, Memory}

-- what is wrong with an entry after the history of a picture
abbrev pub IsWrongNext : Story → Entry → Wrong → Type 0
IsWrongNext story e (Illegal at refusal) =
    (at ≡ length story.history) × IsInTime at e.command × IsDecided story.setup (state_of story.setup story.history) e.who e.command (Err refusal)
IsWrongNext story e (Late at) = (at ≡ length story.history) × (¬ IsInTime at e.command)
IsWrongNext story e Memory = ⊤
