use Rattle.std.proofs.lemmas.List.Filters.{dedup_is}
use Rattle.std.proofs.lemmas.List.Kept.{Contains-dedup, Contains-from_dedup, IsStrictlySortedBy-dedup}
use Rattle.std.proofs.lemmas.List.Sorted.{Contains-permutation, IsPermutation-sym}
use Rattle.mt_snapshot.proofs.FiledOrder.{equal, same, sorted_by, ties, total}
use Rattle.mt_snapshot.proofs.Placing.{placing}
use Rattle.mt_snapshot.proofs.order.in_order.Goals as goal

pub returns : goal.returns
returns c =
    let is = dedup_is _ _ _ c.dedup.ensures.filtered in
    let moved = c.sort_unstable.ensures.permutation in
    placing c.args.snapshot.now _ c.keeps.ensures.sound
    (rw is (IsStrictlySortedBy-dedup total ties _ (sorted_by _ c.sort_unstable.ensures.sorted)))
    (λ x held. (c.in_ok-all.ensures x).0 (Contains-permutation _ _ x (IsPermutation-sym _ _ moved) (Contains-from_dedup _ _ x (rw is at held))))
    (λ x there. rw is (Contains-dedup equal same _ x (Contains-permutation _ _ x moved ((c.in_ok-all.ensures x).1 there))))
