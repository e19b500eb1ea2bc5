use Rattle.mt_history.proofs.NeverWrong.{never_wrong}
use Rattle.mt_history.proofs.laws.history_rebuilt_law.Goals as goal

pub returns : goal.returns
returns c = never_wrong
