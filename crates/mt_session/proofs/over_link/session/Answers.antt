use Rattle.mt_session.proofs.over_link.session.Goals as goal

pub returns-in-Some-clause-session : goal.returns-in-Some-clause-session
returns-in-Some-clause-session g c = rw c.in-Some.is c.serve_link.ensures.session
