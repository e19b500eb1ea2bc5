-- What a decision finds.
use Rattle.std.specs.Prelude.{List, [], ◌∷◌, Option, Some, None}
use Rattle.mt_base.specs.declared.command.Command.{Command}
use Rattle.mt_base.specs.declared.hit.Hit.{Hit}
use Rattle.mt_base.specs.Decision.{HasHits}
use Rattle.mt_base.specs.Picture.{State}
use Rattle.mt_base.specs.Tables.{Setup}

-- the first of the hits of a command that was probed, if it has any; no other command has one
abbrev pub IsFirstHit : Setup → State → Command → Option Hit → Type 0
IsFirstHit setup s command None = HasHits setup s command []
IsFirstHit setup s command (Some first) = (others : List Hit) × HasHits setup s command (first ∷ others)
