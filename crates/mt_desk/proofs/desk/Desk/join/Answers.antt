use Rattle.std.proofs.Common.{rules}
use Rattle.mt_desk.proofs.desk.Desk.join.Goals as goal

-- the seat is joined there
pub returns-clause-joins : goal.returns-clause-joins
returns-clause-joins c = search rules

pub returns-clause-ready : goal.returns-clause-ready
returns-clause-ready c = search rules
