use Rattle.std.proofs.Common.{◌≡◌, All, map, take}
use Rattle.mt_write.specs.Short.{IsShortAdvised}
use Rattle.mt_session.specs.Served.{probe_items_from}
use Rattle.mt_session.proofs.Advice.{number_after}
use Rattle.mt_session.proofs.advising.items_from.Given as goal

abbrev pub invariant-loop-probe : goal.invariant-loop-probe
invariant-loop-probe g l =
    (l.items ≡ probe_items_from l.count (map g.P.Probed.told (take l.probe-index l.probes)))
    × (l.number ≡ number_after l.count (map g.P.Probed.told (take l.probe-index l.probes)))
    × All IsShortAdvised l.items
