use Rattle.mt_kept.proofs.kept.Kept.gather.Goals as goal

pub gather-requires-clause-rules_kept : goal.gather-requires-clause-rules_kept
gather-requires-clause-rules_kept c = c.self.invariant.bounds

pub gather-requires-clause-early : goal.gather-requires-clause-early
gather-requires-clause-early c = c.self.invariant.early

pub gather-requires-clause-candidates : goal.gather-requires-clause-candidates
gather-requires-clause-candidates c = rw c.deref.ensures.value (rw (← c.self.view_is) at c.requires)

pub returns-clause-finds : goal.returns-clause-finds
returns-clause-finds c = rw (← c.self.view_is) (rw c.deref.ensures.value at c.gather.ensures.finds)

pub returns-clause-counted : goal.returns-clause-counted
returns-clause-counted c = rw (← c.self.view_is) (rw c.deref.ensures.value at c.gather.ensures.counted)
