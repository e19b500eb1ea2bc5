use Rattle.std.specs.Prelude.{ℕ}
use Rattle.mt_top.specs.declared.status.Status.{Status}
use Rattle.mt_top.specs.declared.status.Status.TheVariants.{Done, Usage, Setup, ReadFault, WriteFault, DoorFault, Spent, Memory}

-- the exit status of the program
abbrev pub exit_status : Status → ℕ
exit_status Done = 0
exit_status Usage = 2
exit_status Setup = 3
exit_status ReadFault = 4
exit_status WriteFault = 5
exit_status DoorFault = 6
exit_status Spent = 7
exit_status Memory = 8
