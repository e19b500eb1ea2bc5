use Rattle.std.proofs.Common.{◌≡◌, ◌++◌, drop, map, take}
use Rattle.mt_base.specs.Effect.{changed}
use Rattle.mt_change.specs.Altered.{altered_path}
use Rattle.mt_change.proofs.altering.Alteration.alter_each.Given as goal

abbrev pub invariant-loop-flight : goal.invariant-loop-flight
invariant-loop-flight l =
    l.flights ≡ map (changed l.call (altered_path l.self)) (take l.flight-index l.initial.flights) ++ drop l.flight-index l.initial.flights
