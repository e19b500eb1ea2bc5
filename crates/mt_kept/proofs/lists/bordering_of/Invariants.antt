use Rattle.std.proofs.Common.{◌≡◌, take}
use Rattle.std.specs.List.{filter}
use Rattle.mt_kept.specs.Private.Made.{is_at_border}
use Rattle.mt_kept.proofs.lists.bordering_of.Given as goal

abbrev pub invariant-loop-pair : goal.invariant-loop-pair
invariant-loop-pair l = l.list.items ≡ filter (is_at_border l.now) (take l.pair-index l.pairs)
