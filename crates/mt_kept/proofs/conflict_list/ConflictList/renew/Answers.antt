use Rattle.std.proofs.Common.{◌≡◌, [], refl, rules}
use Rattle.std.specs.List.{filter}
use Rattle.std.proofs.lemmas.Fn.{filter_same}
use Rattle.std.proofs.lemmas.List.Kept.{IsStrictlySortedBy-filter}
use Rattle.mt_base.specs.Picture.{conflict_cmp}
use Rattle.mt_kept.specs.Private.Stale.{stays}
use Rattle.mt_kept.proofs.Anew.{renewed_list}
use Rattle.mt_kept.proofs.InOrder.{sorted_none}
use Rattle.mt_kept.proofs.conflict_list.ConflictList.renew.Goals as goal

pub merge-requires-clause-sorted : goal.merge-requires-clause-sorted
merge-requires-clause-sorted c =
    let kept : c.retain.new.self.items ≡ filter (stays c.args.stale.now) c.self.inside.values.items =
    filter_same _ (stays c.args.stale.now) _ (λ x b f' h. search rules) _ _ c.retain.ensures.filtered in
    rw (c.deref.ensures.value, kept) (IsStrictlySortedBy-filter conflict_cmp (stays c.args.stale.now) c.self.inside.values.items c.self.invariant)

pub merge-requires-clause-hidden_sorted : goal.merge-requires-clause-hidden_sorted
merge-requires-clause-hidden_sorted c = sorted_none [] refl

pub returns : goal.returns
returns c =
    let kept : c.retain.new.self.items ≡ filter (stays c.args.stale.now) c.self.inside.values.items =
    filter_same _ (stays c.args.stale.now) _ (λ x b f' h. search rules) _ _ c.retain.ensures.filtered in
    rw (c.swap.ensures.x_after, ← c.self.view_is, ← c.come.view_is)
    (renewed_list c.args.stale.now c.self.inside.values.items c.retain.new.self.items c.come.inside.values.items c.merge.new.merged.items kept
    (rw (c.deref.ensures.value, c.deref-2.ensures.value) at c.merge.ensures.exact))

pub invariant_of-self : goal.invariant_of-self
invariant_of-self c = rw c.swap.ensures.x_after c.merge.ensures.sorted
