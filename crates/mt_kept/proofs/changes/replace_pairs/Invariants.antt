use Rattle.std.proofs.Common.{◌≡◌, ◌≤◌, ◌+◌, length, map, take}
use Rattle.mt_edges.specs.Pairs.{AreDistinctPairs}
use Rattle.mt_kept.specs.Places.{change_place}
use Rattle.mt_kept.specs.Private.Made.{AreReplaced}
use Rattle.mt_kept.proofs.changes.replace_pairs.Given as goal

abbrev pub invariant-loop-find : goal.invariant-loop-find
invariant-loop-find l = record {
  exact : AreReplaced (map change_place l.changes) (take l.find-index l.finds) l.fn.pairs.edges l.pairs.edges;
  once : AreDistinctPairs l.pairs.edges;
  ends : l.pairs.ends ≡ l.fn.pairs.ends;
  room : length l.finds ≤ l.find-index + l.pairs.spare;
}
