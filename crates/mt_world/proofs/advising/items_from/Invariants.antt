use Rattle.std.proofs.Common.{◌≡◌, All, take}
use Rattle.mt_write.specs.Short.{IsShortAdvised}
use Rattle.mt_world.specs.Private.Sound.{clearances_of}
use Rattle.mt_world.specs.World.{items_from}
use Rattle.mt_world.proofs.Advice.{number_after}
use Rattle.mt_world.proofs.advising.items_from.Given as goal

abbrev pub invariant-loop-probe : goal.invariant-loop-probe
invariant-loop-probe l =
    (l.items ≡ items_from l.count (clearances_of (take l.probe-index l.probes))) × (l.number ≡ number_after l.count (clearances_of (take l.probe-index l.probes)))
    × All IsShortAdvised l.items
