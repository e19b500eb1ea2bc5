use Rattle.std.proofs.Common.{rules}
use Rattle.mt_pair.proofs.crossing.crosses_one.Goals as goal

-- the first edge is not inside the span, so that the second one decides
pub returns-then-first-to : goal.returns-then-first-to
returns-then-first-to c = search rules

pub returns-else-first-to : goal.returns-else-first-to
returns-else-first-to c = search rules
