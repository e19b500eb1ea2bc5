use Rattle.mt_history.proofs.reading.read_line.Goals as goal

pub returns-in-Ok-clause-ready : goal.returns-in-Ok-clause-ready
returns-in-Ok-clause-ready c = record { bounded = c.in-Ok.ensures.bounded; timed = c.in-Ok.ensures.timed }
