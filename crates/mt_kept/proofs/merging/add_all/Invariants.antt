use Rattle.std.proofs.Common.{◌≡◌, ◌+◌, ◌++◌, ◌≤◌, length, vec_len, vec_capacity}
use Rattle.std.specs.Slice.Iter.{chunks_rest}
use Rattle.mt_kept.proofs.merging.add_all.Given as goal

abbrev pub invariant-loop-block : goal.invariant-loop-block
invariant-loop-block l = record {
  can_next : goal.iterator-loop-block.can_next l.block-iterator;
  finite : goal.iterator-loop-block.is_finite l.block-iterator;
  items : l.merged.items ++ chunks_rest l.block-iterator ≡ l.initial.merged.items ++ l.list;
  long : vec_len l.merged + length (chunks_rest l.block-iterator) ≡ vec_len l.initial.merged + length l.list;
  room : vec_len l.initial.merged + length l.list ≤ vec_capacity l.merged;
  capacity : vec_capacity l.initial.merged ≤ vec_capacity l.merged;
}
