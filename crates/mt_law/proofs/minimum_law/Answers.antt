use Rattle.mt_law.proofs.OneMinimum.{one_minimum}
use Rattle.mt_law.proofs.minimum_law.Goals as goal

pub returns : goal.returns
returns c = one_minimum
