use Rattle.mt_top.proofs.following.FollowerAnswers.answer.Goals as goal

pub returns-in-None-clause-replied : goal.returns-in-None-clause-replied
returns-in-None-clause-replied g c = rw (← c.self.view_is) c.set_up.ensures.replied
