use Rattle.mt_kept.proofs.Publishing.{published_of}
use Rattle.mt_kept.proofs.kept.Kept.published.Goals as goal

pub returns-clause-published : goal.returns-clause-published
returns-clause-published c =
    let k = c.self.invariant in
    rw (← c.self.view_is) (published_of _ _ _ _ _ _ k.early k.kept k.opened k.exact c.items.ensures.sorted)
