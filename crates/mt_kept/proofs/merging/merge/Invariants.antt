use Rattle.std.proofs.Common.{◌+◌, ◌≤◌, length, vec_len, vec_capacity}
use Rattle.mt_kept.specs.Private.Merging.{AreMerging}
use Rattle.mt_kept.proofs.merging.merge.Given as goal

abbrev pub invariant-loop-conflict : goal.invariant-loop-conflict
invariant-loop-conflict l = record {
  so_far : AreMerging l.list l.hidden l.shown l.conflict-index l.merged.items l.rest l.gone;
  long : (vec_len l.merged + length l.rest) ≤ length l.list + l.conflict-index;
  room : length l.list + length l.shown ≤ vec_capacity l.merged;
  capacity : vec_capacity l.initial.merged ≤ vec_capacity l.merged;
}
