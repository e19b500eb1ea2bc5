use Rattle.std.proofs.Common.{◌≡◌, ◌≤◌, map, take}
use Rattle.mt_edges.specs.Pairs.{AreDistinctPairs}
use Rattle.mt_kept.specs.Places.{change_place}
use Rattle.mt_kept.specs.Private.Made.{WereDropped, without_places}
use Rattle.mt_kept.proofs.changes.drop_pairs.Given as goal

abbrev pub invariant-loop-change : goal.invariant-loop-change
invariant-loop-change l = record {
  edges : l.pairs.edges ≡ without_places (map change_place (take l.change-index l.changes)) l.fn.pairs.edges;
  steps : WereDropped (map change_place (take l.change-index l.changes)) l.fn.pairs.edges l.fn.steps l.steps;
  once : AreDistinctPairs l.pairs.edges;
  spare : l.fn.pairs.spare ≤ l.pairs.spare;
  ends : l.pairs.ends ≡ l.fn.pairs.ends;
}
