use Rattle.mt_snapshot.proofs.Probes.{advised_on}
use Rattle.mt_snapshot.proofs.advising.advise.Goals as goal

pub returns-clause-advised : goal.returns-clause-advised
returns-clause-advised g c =
    rw (c.now.ensures.now, c.version.ensures.version)
    (advised_on c.args.snapshot.now c.args.call c.in_ok-list.list.items c.in_ok-tries.tries.items c.in_ok-free_of.field-0.items c.in_ok-list.ensures.asked
    (rw c.deref.ensures.value at c.in_ok-tries.ensures.len) (rw c.deref.ensures.value at c.in_ok-tries.ensures.each) c.in_ok-free_of.ensures)
