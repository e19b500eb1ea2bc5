use Rattle.mt_law.proofs.Decided.{decided_same}
use Rattle.mt_law.proofs.decision_law.Goals as goal

pub returns : goal.returns
returns c = decided_same
