-- No public contract names these: they are of private steps and of proofs.
-- Links that were accepted so far.
use Rattle.std.specs.Prelude.{List, Option, All}
use Rattle.mt_base.specs.declared.command.Entry.{Entry}
use Rattle.mt_base.specs.Tables.{Setup}
use Rattle.mt_desk.specs.Desk.{Desk, IsSeatOfDesk}
use Rattle.mt_io.specs.Door.{Count}
use Rattle.mt_turn.specs.Seats.{SeatNow}
use Rattle.mt_serve.specs.Sitting.{SessionStart}
use Rattle.mt_serve.specs.Private.Sitting.{HasSeatedLinks, IsSeated}

-- these links went with seats of the desk, and there is one for each that is still to come
pub record Accepting {L : Type 0} (desk : Desk) (old new : Count) (still left : Option (List L)) (seats rest : List (SeatNow Entry Setup)) (starts : List (SessionStart L)) : Type 0 where
  pub begun : HasSeatedLinks old new still left seats rest starts
  pub ready : All (IsSeatOfDesk desk) rest
  pub seated : IsSeated new rest
