use Rattle.std.proofs.Common.{◌≡◌, ◌<◌, length, map}
use Rattle.std.specs.List.{All}
use Rattle.mt_kept.specs.Places.{seen, with_changes}
use Rattle.mt_kept.proofs.changes.put_items.Given as goal

abbrev pub invariant-loop-change : goal.invariant-loop-change
invariant-loop-change l = record {
  left : with_changes (map seen l.places) l.change-iterator.rest.items ≡ with_changes (map seen l.fn.places) l.fn.changes.items;
  inside : All (λ c. c.place < length l.places) l.change-iterator.rest.items;
}
