-- No public contract names these: they are of private steps and of proofs.
use Rattle.std.specs.Prelude.{Bool, true, false}
use Rattle.mt_lines.specs.declared.ending.Ending.{Ending}
use Rattle.mt_lines.specs.declared.ending.Ending.TheVariants as endings
use Rattle.mt_top.specs.declared.status.Status.{Status}
use Rattle.mt_top.specs.declared.status.Status.TheVariants.{Done, ReadFault, WriteFault, Spent}

-- `is_done`, `status_of`: a status that says done; the status of a run whose lines ended so
abbrev pub is_done : Status → Bool
is_done Done = true
is_done status = false

abbrev pub status_of : Ending → Status
status_of endings.End = Done
status_of endings.Last = Done
status_of endings.ReadFault = ReadFault
status_of endings.WriteFault = WriteFault
status_of endings.Spent = Spent
