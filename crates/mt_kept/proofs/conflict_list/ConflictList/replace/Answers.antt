use Rattle.mt_kept.proofs.conflict_list.ConflictList.replace.Goals as goal

pub invariant_of-self : goal.invariant_of-self
invariant_of-self c = rw c.swap.ensures.x_after c.merge.ensures.sorted

pub returns : goal.returns
returns c =
    rw (c.swap.ensures.x_after, ← c.self.view_is, ← c.hidden.view_is, ← c.shown.view_is)
    (rw (c.deref.ensures.value, c.deref-2.ensures.value, c.deref-3.ensures.value) at c.merge.ensures.exact)
