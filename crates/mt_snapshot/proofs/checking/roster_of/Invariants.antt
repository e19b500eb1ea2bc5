use Rattle.std.proofs.Common.{◌≡◌, take}
use Rattle.std.specs.List.{flat_map}
use Rattle.mt_base.specs.Picture.{trajectories_of}
use Rattle.mt_probe.specs.Shot.{records_in}
use Rattle.mt_snapshot.proofs.checking.roster_of.Given as goal

abbrev pub invariant-loop-filed : goal.invariant-loop-filed
invariant-loop-filed l = l.roster ≡ flat_map (trajectories_of l.snapshot.setup) (take l.filed-index (records_in l.snapshot.slots))
