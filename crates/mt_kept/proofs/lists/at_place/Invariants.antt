use Rattle.std.proofs.Common.{◌≡◌, take}
use Rattle.std.specs.List.{filter}
use Rattle.mt_kept.specs.Private.Made.{touches_place}
use Rattle.mt_kept.proofs.lists.at_place.Given as goal

abbrev pub invariant-loop-pair : goal.invariant-loop-pair
invariant-loop-pair l = l.list.items ≡ filter (touches_place l.place) (take l.pair-index l.pairs)
