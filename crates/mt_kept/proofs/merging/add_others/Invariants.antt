use Rattle.std.proofs.Common.{◌≡◌, ◌+◌, ◌++◌, ◌≤◌, List, length, vec_len, vec_capacity}
use Rattle.mt_base.specs.declared.conflict.Conflict.{Conflict}
use Rattle.mt_kept.specs.Private.Merging.{AreLeaving}
use Rattle.mt_kept.proofs.merging.add_others.Given as goal

abbrev pub invariant-loop-conflict : goal.invariant-loop-conflict
invariant-loop-conflict l = record {
  so_far : (kept : List Conflict) × (l.merged.items ≡ l.initial.merged.items ++ kept) × AreLeaving l.list l.hidden l.conflict-index kept l.rest;
  short : vec_len l.merged + length l.rest ≤ vec_len l.initial.merged + length l.list;
  room : vec_len l.initial.merged + length l.list ≤ vec_capacity l.merged;
  capacity : vec_capacity l.initial.merged ≤ vec_capacity l.merged;
}
