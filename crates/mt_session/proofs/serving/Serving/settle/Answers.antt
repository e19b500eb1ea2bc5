use Rattle.std.proofs.Common.{rules}
use Rattle.mt_session.proofs.serving.Serving.settle.Goals as goal

-- the flights that are due are renewed there
pub returns-in-Some-clause-settled : goal.returns-in-Some-clause-settled
returns-in-Some-clause-settled g c = search rules

pub returns-in-None-clause-settled : goal.returns-in-None-clause-settled
returns-in-None-clause-settled g c = search rules
