use Rattle.std.proofs.Common.{◌≡◌, ◌≤◌, ◌+◌, ◌++◌, false, length, drop, vec_len, vec_capacity}
use Rattle.serde_json.specs.Written.{items_text}
use Rattle.mt_write.specs.Entry.{values}
use Rattle.mt_write.proofs.written.put_items.Given as goal

abbrev pub invariant-loop-item : goal.invariant-loop-item
invariant-loop-item g l = record {
  text : l.initial.out.items ++ items_text false (values g.T.Written.value l.items)
      ≡ l.out.items ++ items_text l.later (values g.T.Written.value (drop l.item-index l.items));
  len : vec_len l.initial.out + length (items_text false (values g.T.Written.value l.items))
      ≡ vec_len l.out + length (items_text l.later (values g.T.Written.value (drop l.item-index l.items)));
  room : vec_capacity l.initial.out ≤ vec_capacity l.out;
}
