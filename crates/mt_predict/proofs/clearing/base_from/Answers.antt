use Rattle.std.proofs.Common.{rules}
use Rattle.mt_predict.proofs.clearing.base_from.Goals as goal

-- the row of that second
pub returns-clause-exact : goal.returns-clause-exact
returns-clause-exact c = search rules
