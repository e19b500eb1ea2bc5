use Rattle.std.proofs.Common.{take}
use Rattle.std.specs.List.{All}
use Rattle.mt_edges.specs.Pairs.{HaveSameEnds}
use Rattle.mt_kept.proofs.showing.shown_among.Given as goal

abbrev pub invariant-loop-pair : goal.invariant-loop-pair
invariant-loop-pair l = All (λ o. ¬ HaveSameEnds o.edge l.edge) (take l.pair-index l.pairs)
