use Rattle.mt_kept.proofs.kept.Kept.prepare.Goals as goal

pub returns-clause-hidden : goal.returns-clause-hidden
returns-clause-hidden c = rw (← c.self.view_is) c.in_ok-hidden.ensures

pub returns-clause-shown : goal.returns-clause-shown
returns-clause-shown c = rw (← c.self.view_is) c.in_ok-shown.ensures
