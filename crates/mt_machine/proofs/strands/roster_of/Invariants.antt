use Rattle.mt_base.specs.Tables.{setup_with}
use Rattle.std.proofs.Common.{◌≡◌, take}
use Rattle.std.specs.List.{flat_map}
use Rattle.mt_base.specs.Picture.{trajectories_of}
use Rattle.mt_machine.proofs.strands.roster_of.Given as goal

abbrev pub invariant-loop-flight : goal.invariant-loop-flight
invariant-loop-flight l =
    l.roster ≡ flat_map (trajectories_of (setup_with l.rules l.tables)) (take l.flight-index l.flights)
