use Rattle.mt_snapshot.proofs.OneAnswer.{one_answer}
use Rattle.mt_snapshot.proofs.laws.same_advice_law.Goals as goal

pub returns : goal.returns
returns c = one_answer
