-- No public contract names these: they are of private steps and of proofs.
use Rattle.mt_base.specs.declared.command.Entry.{Entry}
use Rattle.mt_base.specs.Tables.{Setup}
use Rattle.mt_picture.specs.Story.{Story}
use Rattle.mt_turn.specs.declared.view.View.{View}

-- the picture of what a seat has seen
abbrev pub story_seen : Setup → View Entry Setup → Story
story_seen fixed v = record { setup = fixed; history = v.seen }
