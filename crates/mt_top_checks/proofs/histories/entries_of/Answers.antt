use Rattle.mt_top_checks.proofs.histories.entries_of.Goals as goal

pub returns : goal.returns
returns g c = c.in-Ok.ensures.ready
