use Rattle.std.proofs.Common.{map, take}
use Rattle.mt_kept.specs.Places.{seen}
use Rattle.mt_kept.specs.Private.Window.{AreShownUntested}
use Rattle.mt_kept.proofs.showing.shown_pairs.Given as goal

abbrev pub invariant-loop-edge : goal.invariant-loop-edge
invariant-loop-edge l = AreShownUntested (map seen l.places) l.now l.tested (take l.edge-index l.edges) l.pairs.items
